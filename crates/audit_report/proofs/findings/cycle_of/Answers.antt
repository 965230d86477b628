-- The cycle of the order of channels.
use Rattle.std.proofs.Common.{subst, sym}
use Rattle.fact_store.specs.View.{cells_of}
use Rattle.audit_channels.specs.ChannelOrders.{IsCycleIfAny, NoneShorter}
use Rattle.audit_channels.specs.Waiting.{WaitsFor, channel_count}
use Rattle.audit_channels.proofs.Orders.{cycle_if_any, none_shorter}
use Rattle.audit_report.proofs.findings.cycle_of.Goals as goal

pub returns-clause-cycle : goal.returns-clause-cycle
returns-clause-cycle c =
    let cells = cells_of c.args.network.now.facts in
    let F = WaitsFor cells c.args.network.now.held in
    let order = c.in_ok-order.order in
    subst (IsCycleIfAny F) (sym c.cycle_in.ensures) (cycle_if_any F (channel_count cells) order c.in_ok-order.ensures.order)

pub returns-clause-shortest : goal.returns-clause-shortest
returns-clause-shortest c =
    let F = WaitsFor (cells_of c.args.network.now.facts) c.args.network.now.held in
    subst (NoneShorter F) (sym c.cycle_in.ensures) (none_shorter F c.in_ok-order.order c.in_ok-order.ensures.shortest)
