-- What the list of channels that follow tells is so of packets.
use Rattle.fact_store.specs.View.{cells_of}
use Rattle.audit_channels.specs.Waiting.{channel_count}
use Rattle.audit_channels.proofs.Orders.{order_is, shortest_is}
use Rattle.step_loops.specs.StepOrder.{WaitsFor}
use Rattle.step_loops.proofs.order.step_order.Goals as goal

pub returns : goal.returns
returns c =
    let cells = cells_of c.args.held.now.facts in
    let F = WaitsFor cells c.args.held.now.held c.args.next.now.held in
    record {
      order = order_is F (channel_count cells) c.in_ok-waits.waits c.in_ok-waits.ensures c.in_ok-found.found c.in_ok-found.ensures.order;
      shortest = shortest_is F (channel_count cells) c.in_ok-waits.waits c.in_ok-waits.ensures c.in_ok-found.found c.in_ok-found.ensures.shortest;
    }
