-- Calls of `next`, one after the other: each is given the tables that the one before it made, and the order that the
-- one before it told.
use Rattle.std.specs.Prelude.{◌≡◌, ◌≤◌, ◌⊎◌, ◌+◌, ◌-◌, ◌*◌, ℕ, zero, suc, true, List, [], Option, None, length}
use Rattle.fact_store.specs.View.{Facts, cells_of, AreInRange}
use Rattle.subnet_view.specs.Reading.{Cells, switches}
use Rattle.lid_assign.specs.Lids.{IsNoRoom}
use Rattle.lft_blocks.specs.Rule.{RuleValue, spread_in}
use Rattle.spread_routes.specs.SwitchOrder.{OrderValue}
use Rattle.held_tables.specs.Held.{HeldPlan}
use Rattle.plan_order.specs.PlanOrder.{positions_by}
use Rattle.plan_tables.specs.PlanTables.{planned}
use Rattle.next_tables.specs.Rightness.{are_right}
use Rattle.table_laws.specs.PlanLaws.{plan_position}
use Rattle.two_orders.specs.Growth.{positions_in}
use Rattle.next_run.specs.Agreement.{AreGrown, TellsPositions, order_of_plan}
use Rattle.next_run.specs.Between.{Goal}
use Rattle.next_run.specs.NextRun.{IsNextStep}
use Rattle.next_run.specs.StepLoops.{IsLoopInStep}
use Rattle.next_run.specs.StepOrderText.{order_of_step}
use Rattle.table_laws.specs.StepEnds.{AreEnough}
use Rattle.table_laws.specs.WholePlans.{SwitchesAreEndPorts}

-- the order that call `n` is given: none at first, and then the order that the call before it told, if it told one
abbrev pub order_given : Cells → (ℕ → Option Goal) → ℕ → Option (List ℕ)
order_given cells goals zero = None
order_given cells goals (suc n) = order_of_step cells (goals n)

-- call `n` is given `tables n` and makes `tables (n + 1)`; `goals n` is its goal, if it goes by an order that its
-- tables imply
abbrev pub AreCalls : RuleValue → ℕ → Facts → (ℕ → HeldPlan) → (ℕ → Option Goal) → Type 0
AreCalls rule lmc facts tables goals =
    (n : ℕ) → IsNextStep rule (order_given (cells_of facts) goals n) facts (tables n) (planned lmc rule facts) (goals n)
    (tables (suc n))

-- the tables are right by the order of the plan's switches
abbrev pub FollowPlan : RuleValue → Facts → HeldPlan → Type 0
FollowPlan rule facts tables = are_right (cells_of facts) (plan_position rule (cells_of facts)) tables ≡ true

-- the order of the plan's switches grows: the order that grows by its positions is the same
abbrev pub Grows : RuleValue → Facts → Type 0
Grows rule facts =
    positions_in (order_of_plan (cells_of facts) (positions_by rule (cells_of facts))) (length (switches (cells_of facts)))
    ≡ positions_by rule (cells_of facts)

-- the order of a rule that spreads grows, whatever its order of switches is
abbrev pub SpreadOrdersGrow : Type 0
SpreadOrdersGrow = (order : OrderValue) (facts : Facts) → Grows (spread_in order) facts

-- the tables imply an order, and are right by the order that grows by it; the order of the plan's switches grows; and
-- each usable switch has a LID in the plan, since its port GUID is known
pub record ImplyGrown (rule : RuleValue) (facts : Facts) (tables : HeldPlan) : Type 0 where
  pub grows : Grows rule facts
  pub have_ports : SwitchesAreEndPorts (cells_of facts)
  pub told : TellsPositions (cells_of facts) tables (positions_by rule (cells_of facts))
  pub grown : AreGrown (cells_of facts) tables (positions_by rule (cells_of facts))

-- the greatest number of calls, for `n` usable switches, before tables are right by the order of the plan's switches
abbrev pub most_calls : ℕ → ℕ
most_calls n = (n - 1) * (2 * n + 3)

-- suppose facts are in range and have room, and the first tables imply an order as `ImplyGrown` says. Then, for `n`
-- switches, one of the first `most_calls n` calls, or the one after them, is given tables that are right by the order
-- of the plan's switches
abbrev pub CallsComeToFollow : Type 0
CallsComeToFollow =
    (rule : RuleValue) (lmc : ℕ) (facts : Facts) (tables : ℕ → HeldPlan) (goals : ℕ → Option Goal) → AreInRange facts
    → ¬ (IsNoRoom lmc (cells_of facts)) → AreCalls rule lmc facts tables goals → ImplyGrown rule facts (tables 0)
    → (k : ℕ) × (k ≤ most_calls (length (switches (cells_of facts)))) × FollowPlan rule facts (tables k)

-- a call goes by the order of the plan's switches: its tables are right by that order, and it has no other goal than
-- the plan
pub record Follows (rule : RuleValue) (facts : Facts) (tables : HeldPlan) (goal : Option Goal) : Type 0 where
  pub right : FollowPlan rule facts tables
  pub no_goal : goal ≡ None

-- suppose facts are in range and have room, and call `k` is given tables that are right by the order of the plan's
-- switches. Then it and all later calls go by that order, and after enough of them (`AreEnough`), a call changes
-- nothing
abbrev pub FollowingCallsEnd : Type 0
FollowingCallsEnd =
    (rule : RuleValue) (lmc : ℕ) (facts : Facts) (tables : ℕ → HeldPlan) (goals : ℕ → Option Goal) → AreInRange facts
    → ¬ (IsNoRoom lmc (cells_of facts)) → AreCalls rule lmc facts tables goals
    → (k : ℕ) → FollowPlan rule facts (tables k) → (n : ℕ) → Follows rule facts (tables (n + k)) (goals (n + k))
    × (AreEnough rule lmc facts n → tables (suc n + k) ≡ tables (n + k))

-- suppose facts are in range and have room, and the first tables imply an order, or are right by the order of the
-- plan's switches. Then no mixture of a call's tables and those that it makes can make a credit loop
abbrev pub CallsMakeNoLoop : Type 0
CallsMakeNoLoop =
    (rule : RuleValue) (lmc : ℕ) (facts : Facts) (tables : ℕ → HeldPlan) (goals : ℕ → Option Goal) → AreInRange facts
    → ¬ (IsNoRoom lmc (cells_of facts)) → AreCalls rule lmc facts tables goals
    → TellsPositions (cells_of facts) (tables 0) (positions_by rule (cells_of facts)) ⊎ FollowPlan rule facts (tables 0)
    → (n : ℕ) (cycle lids : List ℕ) → IsLoopInStep (cells_of facts) (tables n) (tables (suc n)) cycle lids → cycle ≡ []
