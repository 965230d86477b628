-- The plan by the named switches is the plan by the order, and so are its switches.
use Rattle.std.proofs.Common.{◌≡◌, ◌∙◌, ℕ, List, ap, sym}
use Rattle.std.specs.Prelude.{map}
use Rattle.fact_store.specs.View.{Facts, cells_of}
use Rattle.subnet_view.proofs.GraphSwitches.{graph_guids}
use Rattle.spread_labels.specs.Orders.{position_of}
use Rattle.spread_routes.specs.SwitchOrder.{OrderValue, named_in, order_value_of}
use Rattle.lft_blocks.specs.Plan.{PlanValue, plan_of, switches_of}
use Rattle.lft_blocks.specs.Rule.{order_of, spread_in}
use Rattle.plan_order.proofs.Named.{named_plan, plan_guids}
use Rattle.plan_order.proofs.ordered_plan.by_spread.Goals as goal

pub returns-clause-plan : goal.returns-clause-plan
returns-clause-plan c =
    let facts = c.args.planned.now.subnet in
    let own = order_value_of c.args.order.now in
    c.in_ok-plan.ensures.plan
    ∙ ap (λ (order : OrderValue). plan_of (spread_in order) c.args.lmc (cells_of facts))
    (c.in-Ok.ensures.named ∙ ap (λ (x : Facts). named_in own (order_of own (cells_of x))) c.wired.ensures)
    ∙ named_plan own c.args.lmc facts

pub returns-clause-positions : goal.returns-clause-positions
returns-clause-positions c =
    let cells = cells_of c.args.planned.now.subnet in
    let switches_are = c.switches.ensures ∙ ap switches_of c.in_ok-plan.ensures.plan
    ∙ plan_guids (spread_in (order_value_of c.in-Ok.order)) c.args.lmc cells ∙ sym (graph_guids cells) in
    let own = order_value_of c.args.order.now in
    let named_are = c.deref.ensures.value ∙ c.in-Ok.ensures.switches ∙ ap (λ (x : Facts). order_of own (cells_of x)) c.wired.ensures in
    c.in_ok-positions.ensures ∙ (λ i. map (position_of (named_are i)) (switches_are i))
