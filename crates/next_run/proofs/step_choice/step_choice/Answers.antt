-- The goal is the one by the order that the held tables imply, since they are not right by the plan's.
use Rattle.std.proofs.Common.{◌≡◌, ◌∙◌, ℕ, Bool, false, List, Option, Some, ap, subst, sym}
use Rattle.std.specs.Option.{option_map}
use Rattle.fact_store.specs.View.{cells_of}
use Rattle.plan_order.specs.PlanOrder.{positions_by}
use Rattle.next_tables.specs.NextTables.{by_order}
use Rattle.next_tables.specs.SwitchPositions.{position_at}
use Rattle.held_order.specs.Between.{goal_of}
use Rattle.held_order.specs.Rightness.{are_right}
use Rattle.held_order.specs.declared.step_goal.StepGoal.{StepGoal}
use Rattle.next_run.specs.LastOrder.{near_positions}
use Rattle.next_run.specs.NextRun.{IsGoalFrom}
use Rattle.next_run.specs.StepOrderText.{items_of, switches_by}
use Rattle.next_run.proofs.step_choice.step_choice.Goals as goal

pub returns-in_ok-switches-in-Some : goal.returns-in_ok-switches-in-Some
returns-in_ok-switches-in-Some c = λ rule is.
    let last = items_of c.args.last.now in
    let facts = c.args.step.now.from.now.facts in
    let held = c.args.step.now.from.now.held in
    let plan = c.args.step.now.plan.now.held in
    let by = positions_by rule (cells_of facts) in
    let made = c.in-Some.field-0 in
    let wrong : are_right (cells_of facts) (position_at by) held ≡ false =
    sym (c.in_ok-are_right.ensures ∙ ap (λ (ps : List ℕ). are_right (cells_of facts) (position_at ps) held) is)
    ∙ c.if-branch.false in
    let Found : List ℕ × Option StepGoal → Type 0 =
    λ x. IsGoalFrom false (cells_of facts) held plan x.0 (near_positions x.0 (cells_of facts) last) (option_map goal_of x.1) in
    let found = subst Found (λ i. (is i, c.in-Some.is i)) c.in_ok-positions.ensures in
    let From : Bool → Type 0 =
    λ b. IsGoalFrom b (cells_of facts) held plan by (near_positions by (cells_of facts) last) (Some (goal_of made)) in
    let order_is = c.in_ok-switches-in-Some.ensures ∙ ap (switches_by (cells_of facts)) c.deref.ensures.value in
    record {
      goal = Some (goal_of made);
      goal_is = subst From (sym wrong) found;
      is = λ i. record { by = by_order made.positions.items; goal = Some made.tables; order = Some (order_is i) };
    }
