-- Stages that can be: the premises of the laws of handed steps and of stages are met together.
use Rattle.std.specs.Prelude.{◌≡◌, ◌≢◌, ◌≤◌, ◌<◌, ◌⊎◌, ℕ, suc, List, Some, length, slice_get}
use Rattle.fact_store.specs.View.{AreInRange, Facts, cells_of}
use Rattle.subnet_view.specs.Reading.{Cells, switches}
use Rattle.held_tables.specs.declared.held.HeldLid.{HeldLid}
use Rattle.held_tables.specs.Held.{HeldPlan}
use Rattle.held_tables.specs.Tables.{entry_for}
use Rattle.next_tables.specs.NextTables.{IsKept}
use Rattle.next_tables.specs.OrderedStepLaws.{DeliverFrom}
use Rattle.two_orders.specs.Growth.{positions_in}
use Rattle.held_order.specs.Agreement.{AreRightBy, ComeEverywhere, IsRightByGrown, TellsPositions, order_of_plan}
use Rattle.held_order.specs.Between.{Goal}
use Rattle.held_order.specs.GoalLaws.{AreGoalSteps, IsGoalLine}
use Rattle.held_order.specs.HandedStages.{AreHandedSteps, HaveOwnLids, IsStage, IsWholePlan}
use Rattle.held_order.specs.Orders.{edges_in}

-- the tables are right for every LID by the plan's order, which grows by the positions `by`
abbrev pub AreRightByPlan : Cells → List ℕ → HeldPlan → Type 0
AreRightByPlan cells by tables =
    AreRightBy cells (positions_in (order_of_plan cells by) (length (edges_in cells))) tables

-- an example: handed steps go from tables that are right by the order that they imply, and not by the plan's. For the
-- LID of a goal line they are goal steps, and the first one changes an entry for this LID
pub record SomeStepsAreHanded : Type 0 where
  pub facts : Facts
  pub by : List ℕ
  pub plan : HeldPlan
  pub tables : ℕ → HeldPlan
  pub goals : ℕ → Goal
  pub count : ℕ
  pub are : AreHandedSteps facts by by plan tables goals count
  pub told : TellsPositions (cells_of facts) (tables 0) by
  pub grown : IsRightByGrown (cells_of facts) (tables 0) told.positions
  pub other_order : ¬ (AreRightByPlan (cells_of facts) by (tables 0))
  pub line : HeldLid
  pub is_line : IsGoalLine (cells_of facts) plan line
  pub kept : IsKept (tables 0) plan line
  pub delivering : (i g : ℕ) → slice_get (switches (cells_of facts)) i ≡ Some g
      → (entry_for (tables 0) line.lid g ≡ 255) ⊎ DeliverFrom (cells_of facts) (tables 0) line i
  pub all : ℕ → HeldPlan
  pub goal_steps : AreGoalSteps facts told.positions by plan line all
  pub same : (n : ℕ) → n ≤ count → tables n ≡ all n
  pub some : 1 ≤ count
  pub switch : ℕ
  pub changes : entry_for (tables 1) line.lid switch ≢ entry_for (tables 0) line.lid switch

-- an example: stages go towards a whole plan in which each usable switch has a LID. The first tables are not right by
-- the plan's order, and bring packets from each switch to each other. There are as many stages as `StagesAreFew` asks
-- for
pub record SomeStagesGo : Type 0 where
  pub facts : Facts
  pub range : AreInRange facts
  pub by : List ℕ
  pub plan : HeldPlan
  pub whole : IsWholePlan (cells_of facts) plan
  pub own : HaveOwnLids (cells_of facts) plan
  pub tables : ℕ → HeldPlan
  pub count : ℕ
  pub told : TellsPositions (cells_of facts) (tables 0) by
  pub come : ComeEverywhere (cells_of facts) (tables 0)
  pub stages : (k : ℕ) → k < count → IsStage facts by plan (tables k) (tables (suc k))
  pub enough : length (switches (cells_of facts)) ≤ suc count
  pub other_order : ¬ (AreRightByPlan (cells_of facts) by (tables 0))
