-- By the channels that follow each other.
use Rattle.std.proofs.Common.{sym, subst}
use Rattle.audit_channels.specs.ChannelOrders.{IsCycleIfAny, NoneShorter}
use Rattle.audit_channels.proofs.Orders.{cycle_if_any, none_shorter, order_is, shortest_is}
use Rattle.lane_channels.specs.AnyTables.{lane_channel_count}
use Rattle.lane_channels.specs.Waiting.{WaitsByLane}
use Rattle.lane_channels.proofs.loops_by_lane.lane_order.Goals as goal

pub returns-clause-cycle : goal.returns-clause-cycle
returns-clause-cycle c =
    let F = WaitsByLane c.args.by_lane.now c.args.answers in
    let count = lane_channel_count c.args.by_lane.now in
    let order = c.in_ok-order.order in
    subst (IsCycleIfAny F) (sym c.cycle_in-cycle.ensures)
    (cycle_if_any F count order (order_is F count c.in_ok-found.found.waits c.in_ok-found.ensures.waits order c.in_ok-order.ensures.order))

pub returns-clause-shortest : goal.returns-clause-shortest
returns-clause-shortest c =
    let F = WaitsByLane c.args.by_lane.now c.args.answers in
    let count = lane_channel_count c.args.by_lane.now in
    let order = c.in_ok-order.order in
    subst (NoneShorter F) (sym c.cycle_in-cycle.ensures)
    (none_shorter F order (shortest_is F count c.in_ok-found.found.waits c.in_ok-found.ensures.waits order c.in_ok-order.ensures.shortest))
