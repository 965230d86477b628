-- The goal of a step from tables that imply an order: tables between that order and the next one on the way to the
-- plan's.
use Rattle.std.specs.Prelude.{◌≡◌, ℕ, List, Option, None, Some}
use Rattle.subnet_view.specs.Reading.{Cells}
use Rattle.held_tables.specs.Held.{HeldPlan}
use Rattle.held_order.specs.declared.step_goal.StepGoal.{StepGoal}
use Rattle.held_order.specs.TablesBetween.{tables_between}
use Rattle.held_order.specs.Orders.{AreOrders, edges_in}
use Rattle.two_orders.specs.TwoOrders.{TwoOrders}

-- the positions of the first order, and the tables between the two orders
pub record Goal : Type 0 where
  pub positions : List ℕ
  pub tables : HeldPlan

-- the goal between two orders: the positions in the first, and the tables between both
abbrev pub goal_between : Cells → TwoOrders → HeldPlan → HeldPlan → Goal
goal_between cells orders held plan = record {
  positions = orders.first;
  tables = tables_between cells (edges_in cells) orders held plan;
}

-- the goal that a `StepGoal` of the code stands for
abbrev pub goal_of : StepGoal → Goal
goal_of goal = record { positions = goal.positions.items; tables = goal.tables }

-- the goal between the orders of `held` and the plan. `by` has the positions in the plan's order. `preferred` has
-- those in the preferred order, to which the order of `held` is to be nearest
pub record IsGoalBetween (cells : Cells) (held plan : HeldPlan) (by preferred : List ℕ) (goal : Goal) : Type 0 where
  pub orders : TwoOrders
  pub are : AreOrders cells held (edges_in cells) by preferred (Some orders)
  pub is : goal ≡ goal_between cells orders held plan

-- the goal of a step from `held`; None exactly when the held tables imply no order
abbrev pub IsGoal : Cells → HeldPlan → HeldPlan → List ℕ → List ℕ → Option Goal → Type 0
IsGoal cells held plan by preferred None = AreOrders cells held (edges_in cells) by preferred None
IsGoal cells held plan by preferred (Some goal) = IsGoalBetween cells held plan by preferred goal
