-- What the list of channels that follow tells is so of packets.
use Rattle.fact_store.specs.View.{cells_of}
use Rattle.audit_channels.specs.Waiting.{WaitsFor, channel_count}
use Rattle.audit_channels.proofs.Orders.{order_is, shortest_is}
use Rattle.audit_channels.proofs.network_order.channel_order.Goals as goal

pub returns : goal.returns
returns c =
    let cells = cells_of c.args.network.now.facts in
    let F = WaitsFor cells c.args.network.now.held in
    record {
      order = order_is F (channel_count cells) c.in_ok-waits.waits c.in_ok-waits.ensures c.in_ok-found.found c.in_ok-found.ensures.order;
      shortest = shortest_is F (channel_count cells) c.in_ok-waits.waits c.in_ok-waits.ensures c.in_ok-found.found c.in_ok-found.ensures.shortest;
    }
