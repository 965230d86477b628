-- What a step of whole tables gives: only one result and, if it goes by an order, no credit loop.
use Rattle.std.specs.Prelude.{◌≡◌, ℕ, true, List, [], Option, Some}
use Rattle.fact_store.specs.View.{Facts, cells_of, AreInRange}
use Rattle.lid_assign.specs.Lids.{IsNoRoom}
use Rattle.lft_blocks.specs.Rule.{RuleValue}
use Rattle.subnet_view.specs.Reading.{Cells}
use Rattle.held_tables.specs.Held.{HeldPlan}
use Rattle.audit_channels.specs.ChannelOrders.{IsCycle}
use Rattle.next_tables.specs.Mixtures.{WaitsMixed}
use Rattle.plan_tables.specs.PlanTables.{planned}
use Rattle.next_tables.specs.Rightness.{are_right}
use Rattle.table_laws.specs.PlanLaws.{plan_position}
use Rattle.next_run.specs.Between.{Goal}
use Rattle.next_tables.specs.SwitchPositions.{position_at}
use Rattle.next_run.specs.StepLoops.{IsLoopInStep}
use Rattle.next_run.specs.NextRun.{IsGoalOf, IsNextStep, next_towards, stepped}

-- the step from `held` towards the plan of `facts` makes no credit loop, and the next tables are right by the order of
-- the plan's switches
pub record IsFreeOfLoops (lmc : ℕ) (rule : RuleValue) (facts : Facts) (held : HeldPlan) : Type 0 where
  pub loops : (cycle lids : List ℕ) → IsLoopInStep (cells_of facts) held (stepped lmc rule facts held) cycle lids
      → cycle ≡ []
  pub right : are_right (cells_of facts) (plan_position rule (cells_of facts)) (stepped lmc rule facts held) ≡ true

-- if facts are in range and have room, a step towards their plan from tables that are right by the order of the plan's
-- switches makes no credit loop, and leads to tables that are right by this order
abbrev pub RightTablesMakeNoLoop : Type 0
RightTablesMakeNoLoop =
    (rule : RuleValue) (lmc : ℕ) (facts : Facts) (held : HeldPlan) → AreInRange facts
    → ¬ (IsNoRoom lmc (cells_of facts)) → are_right (cells_of facts) (plan_position rule (cells_of facts)) held ≡ true
    → IsFreeOfLoops lmc rule facts held

-- if `next` finds no credit loop in a step, channels never wait in a cycle, whatever mixtures of the held and the next
-- tables the switches hold
abbrev pub FreeStepsMakeNoLoop : Type 0
FreeStepsMakeNoLoop =
    (cells : Cells) (held next : HeldPlan) (lids : List ℕ) → IsLoopInStep cells held next [] lids
    → (cycle : List ℕ) → ¬ (IsCycle (WaitsMixed cells held next) cycle)

-- equal sets of facts, options, held tables and plans give equal goals and equal next tables
abbrev pub StepsHaveOneResult : Type 0
StepsHaveOneResult =
    (rule : RuleValue) (last : Option (List ℕ)) (facts : Facts) (held plan : HeldPlan) (goal other_goal : Option Goal)
    (next other : HeldPlan)
    → IsNextStep rule last facts held plan goal next → IsNextStep rule last facts held plan other_goal other
    → (goal ≡ other_goal) × (next ≡ other)

-- the step from `held` to `next` makes no credit loop, and `next` is right by the first order of `goal`
pub record IsFreeByTold (facts : Facts) (held next : HeldPlan) (goal : Goal) : Type 0 where
  pub loops : (cycle lids : List ℕ) → IsLoopInStep (cells_of facts) held next cycle lids → cycle ≡ []
  pub right : are_right (cells_of facts) (position_at goal.positions) next ≡ true

-- a step towards a goal between two orders makes no credit loop, and the next tables are right by the first of these
-- orders
abbrev pub ToldStepsMakeNoLoop : Type 0
ToldStepsMakeNoLoop =
    (rule : RuleValue) (last : Option (List ℕ)) (lmc : ℕ) (facts : Facts) (held : HeldPlan) (goal : Goal)
    → IsGoalOf rule last facts held (planned lmc rule facts) (Some goal)
    → IsFreeByTold facts held (next_towards rule facts held (planned lmc rule facts) (Some goal)) goal
