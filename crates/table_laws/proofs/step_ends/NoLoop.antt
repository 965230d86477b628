-- From right tables no credit loop comes about in a step.
use Rattle.std.proofs.Common.{◌≡◌, ℕ, List, [], Some, true, cond, sym, ap, subst}
use Rattle.std.specs.Prelude.{slice_index_or}
use Rattle.fact_store.specs.View.{Facts, cells_of}
use Rattle.subnet_view.specs.Reading.{Cells}
use Rattle.held_tables.specs.Held.{HeldPlan}
use Rattle.plan_order.specs.PlanOrder.{positions_by}
use Rattle.next_tables.specs.Mixtures.{RiseInStep, WaitsMixed}
use Rattle.next_tables.specs.OrderRule.{numbers_by}
use Rattle.next_tables.specs.SwitchPositions.{position_at}
use Rattle.next_tables.specs.NextTables.{by_order, next_tables, settled_first}
use Rattle.next_run.specs.StepOrder.{WaitsFor}
use Rattle.next_tables.specs.Rightness.{are_right}
use Rattle.next_tables.proofs.by_order.OrderedTables.{ordered_tables_are_next}
use Rattle.next_tables.proofs.by_order.ToldRight.{rightness_is_told}
use Rattle.table_laws.specs.PlanLaws.{plan_position}
use Rattle.table_laws.proofs.plan_orders.PlanSteps.{steps_towards_plans}
use Rattle.next_run.specs.Between.{Goal, IsGoal}
use Rattle.next_run.specs.GoalLaws.{next_towards as next_to}
use Rattle.next_run.proofs.Safe.{goals_are_safe}
use Rattle.next_tables.proofs.Waits.{mixtures_wait_so}
use Rattle.next_tables.proofs.by_order.Waits.{numbers_rise_by_order}
use Rattle.next_run.specs.NextRun.{stepped}
use Rattle.plan_tables.specs.PlanTables.{planned}
use Rattle.audit_channels.specs.ChannelOrders.{IsCycleIfAny}
use Rattle.audit_channels.proofs.Orders.{no_cycle, no_cycle_at_all}
use Rattle.table_laws.specs.StepLaws.{FreeStepsMakeNoLoop, IsFreeByTold, RightTablesMakeNoLoop, ToldStepsMakeNoLoop}
use Rattle.table_laws.proofs.step_ends.OneStep.{goal_implied}

module _ (cells : Cells) (held next : HeldPlan) (numbers : List ℕ) (rise : RiseInStep cells held next numbers) where
  none_in_cycle : (cycle : List ℕ) → IsCycleIfAny (WaitsFor cells held next) cycle → cycle ≡ []
  none_in_cycle = no_cycle_at_all (WaitsFor cells held next) (record {
    number = λ c. slice_index_or numbers c 0;
    rises = λ a b w. rise w.lid a b w.is_lid w.waits;
  })

pub right_tables_make_no_loop : RightTablesMakeNoLoop
right_tables_make_no_loop rule lmc facts held range has_room right =
    let cells = cells_of facts in
    let q = plan_position rule cells in
    let positions = positions_by rule cells in
    let plan = planned lmc rule facts in
    let next = next_tables cells (by_order positions) held plan in
    let told = rightness_is_told cells q in
    let towards = steps_towards_plans rule lmc facts range has_room held next ((told held).0 right) (ordered_tables_are_next facts positions held plan) in
    let same : stepped lmc rule facts held ≡ next = ap (λ t. next_tables cells (cond t (by_order positions) settled_first) held plan) right in
    record {
      loops = λ cycle lids is. none_in_cycle cells held (stepped lmc rule facts held) (numbers_by cells q)
          (subst (λ (t : HeldPlan). RiseInStep cells held t (numbers_by cells q)) (sym same) towards.0) cycle is.waits;
      right = subst (λ (t : HeldPlan). are_right cells q t ≡ true) (sym same) ((told next).1 towards.1);
    }

-- nor in a step by the order that the held tables tell
free_by_told : (facts : Facts) (held plan : HeldPlan) (by preferred : List ℕ) (goal : Goal) → IsGoal (cells_of facts) held plan by preferred (Some goal)
    → IsFreeByTold facts held (next_to facts held goal) goal
free_by_told facts held plan by preferred goal is =
    let cells = cells_of facts in
    let q = position_at goal.positions in
    let next = next_to facts held goal in
    let safe = goals_are_safe facts held plan by preferred goal is in
    record {
      loops = λ cycle lids found. none_in_cycle cells held next (numbers_by cells q) (numbers_rise_by_order cells q held goal.tables next safe.0) cycle found.waits;
      right = (rightness_is_told cells q next).1 safe.1;
    }

pub told_steps_make_no_loop : ToldStepsMakeNoLoop
told_steps_make_no_loop rule last lmc facts held goal is =
    let plan = planned lmc rule facts in
    let own = goal_implied rule facts held plan last goal is in
    free_by_told facts held plan (positions_by rule (cells_of facts)) own.near goal own.is

pub free_steps_make_no_loop : FreeStepsMakeNoLoop
free_steps_make_no_loop cells held next lids found = no_cycle (WaitsMixed cells held next) (record {
  number = found.waits.number;
  rises = λ a b w. found.waits.rises a b (record {
    lid = w.lid;
    is_lid = w.is_lid;
    waits = mixtures_wait_so cells held next w.before w.now w.lid w.before_is w.now_is a b w.waits;
  });
})
