-- No loop, or a loop with its LIDs.
use Rattle.std.proofs.Common.{List, ℕ, subst}
use Rattle.fact_store.specs.View.{cells_of}
use Rattle.audit_channels.specs.ChannelOrders.{IsOrder, IsShortest}
use Rattle.audit_channels.specs.Waiting.{channel_count}
use Rattle.audit_channels.proofs.Orders.{cycle_there}
use Rattle.step_loops.specs.LidsInLoop.{AreLoopLids}
use Rattle.step_loops.specs.StepOrder.{WaitsFor}
use Rattle.next_run.proofs.StepIs.{no_loop}
use Rattle.next_run.proofs.loop_text.StepLoop.of.Goals as goal

pub returns : goal.returns
returns c =
    let cells = cells_of c.args.held.now.facts in
    let held = c.args.held.now.held in
    let next = c.args.next.now.held in
    let F = WaitsFor cells held next in
    let channels = c.in-Cycle.channels.items in
    let lids = c.in_ok-lids-in-Cycle.lids.items in
    let order = subst (IsOrder F (channel_count cells)) c.in-Cycle.is c.in_ok-step_order.ensures.order in
    record {
      waits = cycle_there F channels order;
      shortest = subst (IsShortest F) c.in-Cycle.is c.in_ok-step_order.ensures.shortest;
      lids_are = subst (λ (xs : List ℕ). AreLoopLids cells held next xs lids) c.deref.ensures.value c.in_ok-lids-in-Cycle.ensures;
    }

pub returns-in-Rises : goal.returns-in-Rises
returns-in-Rises c =
    let cells = cells_of c.args.held.now.facts in
    let held = c.args.held.now.held in
    let next = c.args.next.now.held in
    let order = subst (IsOrder (WaitsFor cells held next) (channel_count cells)) c.in-Rises.is c.in_ok-step_order.ensures.order in
    no_loop cells held next c.in-Rises.field-0.items c.new.result.items c.new-in-Rises.result.items order c.new.ensures.items c.new-in-Rises.ensures.items
