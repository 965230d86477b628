-- How far the order that tables imply agrees with the plan's order, from step to step and from goal to goal.
use Rattle.std.specs.Prelude.{◌≡◌, ◌≤◌, ◌<◌, ℕ, zero, suc, true, List, None, Some, length}
use Rattle.fact_store.specs.View.{Facts, cells_of}
use Rattle.port_graph.specs.Heads.{heads}
use Rattle.port_graph.specs.Walks.{Walk}
use Rattle.subnet_view.specs.Reading.{Cells, switches}
use Rattle.held_tables.specs.Held.{HeldPlan}
use Rattle.next_tables.specs.SwitchPositions.{AreRight, Leads, position_at}
use Rattle.next_tables.specs.Rightness.{are_right}
use Rattle.held_order.specs.ToldOrder.{IsImpliedOrder, position_in}
use Rattle.two_orders.specs.Agreement.{AgreesUpTo}
use Rattle.two_orders.specs.Growth.{grown_by, positions_in}
use Rattle.two_orders.specs.LabelLaws.{grown_twice}
use Rattle.held_order.specs.Between.{Goal, IsGoal}
use Rattle.held_order.specs.GoalLaws.{next_towards}
use Rattle.held_order.specs.Orders.{edges_in, orders_from, told_positions}

-- the plan's order: it grows by the positions `by` of the plan
abbrev pub order_of_plan : Cells → List ℕ → List ℕ
order_of_plan cells by = grown_by (edges_in cells) by

-- `tables` imply an order that agrees with the plan's order on the first `k` switches
pub record AgreeTo (cells : Cells) (tables : HeldPlan) (by : List ℕ) (k : ℕ) : Type 0 where
  pub some : IsImpliedOrder cells tables (order_of_plan cells by) None → ⊥
  pub agrees : (taken : List ℕ) → IsImpliedOrder cells tables (order_of_plan cells by) (Some taken)
      → AgreesUpTo (order_of_plan cells by) (position_in taken) k

-- `tables` are right for every LID by `positions`
abbrev pub AreRightBy : Cells → List ℕ → HeldPlan → Type 0
AreRightBy cells positions tables = (lid : ℕ) → 1 ≤ lid → AreRight cells (position_at positions) tables lid

-- `tables` are right for every LID by the order that grows by the positions `told`
abbrev pub IsRightByGrown : Cells → HeldPlan → List ℕ → Type 0
IsRightByGrown cells tables told =
    are_right cells (position_at (positions_in (grown_by (edges_in cells) told) (length (edges_in cells)))) tables ≡ true

-- `tables` imply an order, and of several orders the one nearest to the plan's is taken; `positions` are the
-- positions of the switches in this order
pub record TellsPositions (cells : Cells) (tables : HeldPlan) (by : List ℕ) : Type 0 where
  pub taken : List ℕ
  pub is_told : IsImpliedOrder cells tables (order_of_plan cells by) (Some taken)
  pub positions : List ℕ
  pub are : positions ≡ told_positions taken (length (edges_in cells))

-- if the plan's order is preferred, then after a step towards the goal between two orders, the order that the tables
-- imply agrees with the plan's order at least as far as before the step
abbrev pub StepsKeepAgreement : Type 0
StepsKeepAgreement =
    (facts : Facts) (held plan : HeldPlan) (by : List ℕ) (goal : Goal) (k : ℕ)
    → IsGoal (cells_of facts) held plan by by (Some goal) → AgreeTo (cells_of facts) held by k
    → AgreeTo (cells_of facts) (next_towards facts held goal) by k

-- `next` is right by the first or by the second order of a step from `held`. If `next` is right by the second order,
-- `next` may count as a goal reached (`goal`): then `later` is one more than `count`, and `held` is right by the
-- order that grows by the order that `held` implies. If `next` does not count (`first`, `second`), `later` is `count`
pub data IsOnward (cells : Cells) (held next : HeldPlan) (by : List ℕ) (count later : ℕ) : Type 0 where
  first : (told : TellsPositions cells held by)
      → AreRightBy cells (orders_from cells held (edges_in cells) by told.positions).first next → later ≡ count
      → IsOnward cells held next by count later
  second : (told : TellsPositions cells held by)
      → AreRightBy cells (orders_from cells held (edges_in cells) by told.positions).second next → later ≡ count
      → IsOnward cells held next by count later
  goal : (told : TellsPositions cells held by) → IsRightByGrown cells held told.positions
      → AreRightBy cells (orders_from cells held (edges_in cells) by told.positions).second next → later ≡ suc count
      → IsOnward cells held next by count later

-- if `next` is onward from `held`, and the order of `held` agrees with the plan's on the first `count` switches, the
-- order of `next` agrees with the plan's on the first `later` switches. So each goal that is reached takes the
-- agreement one switch further
abbrev pub GoalsGoFurther : Type 0
GoalsGoFurther =
    (facts : Facts) (held next : HeldPlan) (by : List ℕ) (count later : ℕ)
    → IsOnward (cells_of facts) held next by count later → AgreeTo (cells_of facts) held by count
    → AgreeTo (cells_of facts) next by later

-- each of `tables` is onward from the one before; the first ones imply an order, and `reached m` is the number of goals
-- that were reached in the first `m` steps
pub record AreOnTheWay (cells : Cells) (by : List ℕ) (tables : ℕ → HeldPlan) (reached : ℕ → ℕ) : Type 0 where
  pub told : TellsPositions cells (tables 0) by
  pub none_yet : reached 0 ≡ 0
  pub each : (m : ℕ) → IsOnward cells (tables m) (tables (suc m)) by (reached m) (reached (suc m))

-- once n - 1 goals are reached, where n is the number of switches, tables on the way are right by the plan's order
abbrev pub GoalsAreFew : Type 0
GoalsAreFew =
    (facts : Facts) (by : List ℕ) (tables : ℕ → HeldPlan) (reached : ℕ → ℕ)
    → AreOnTheWay (cells_of facts) by tables reached
    → (m : ℕ) → length (switches (cells_of facts)) ≤ suc (reached m)
    → AreRightBy (cells_of facts)
    (positions_in (order_of_plan (cells_of facts) by) (length (edges_in (cells_of facts)))) (tables m)

-- `tables` are right by the order that grows by the one that they imply; of several, the one nearest to the plan's
abbrev pub AreGrown : Cells → HeldPlan → List ℕ → Type 0
AreGrown cells tables by = (told : TellsPositions cells tables by) → IsRightByGrown cells tables told.positions

-- suppose the tables are right for every LID by the order that grew by `told`, and of the orders that the tables
-- imply, the one nearest to this grown order is taken. Then this grown order is the first order of the next step, and
-- the second order grows by the plan's positions along the tree of the first
abbrev pub OrdersStay : Type 0
OrdersStay =
    (facts : Facts) (tables : HeldPlan) (told by taken : List ℕ)
    → AreRightBy (cells_of facts)
    (positions_in (grown_by (edges_in (cells_of facts)) told) (length (edges_in (cells_of facts)))) tables
    → IsImpliedOrder (cells_of facts) tables (grown_by (edges_in (cells_of facts)) told) (Some taken)
    → orders_from (cells_of facts) tables (edges_in (cells_of facts)) by
    (told_positions taken (length (edges_in (cells_of facts))))
    ≡ grown_twice (edges_in (cells_of facts)) told by

-- under `tables`, packets for `lid` from switch `i` reach switch `j` along the given number of channels
abbrev pub ComeTo : Cells → HeldPlan → ℕ → ℕ → ℕ → ℕ → Type 0
ComeTo cells tables lid zero i j = i ≡ j
ComeTo cells tables lid (suc n) i j = (x : ℕ) × Leads cells tables lid i x × ComeTo cells tables lid n x j

-- under `tables`, for any two switches that wires join, directly or via others, packets for at least one LID from the
-- first switch reach the second
abbrev pub ComeEverywhere : Cells → HeldPlan → Type 0
ComeEverywhere cells tables =
    (i j k : ℕ) → i < length (switches cells) → j < length (switches cells) → Walk (heads (edges_in cells)) i j k
    → (lid n : ℕ) × (1 ≤ lid) × ComeTo cells tables lid n i j

-- if, under tables that imply an order, packets get from each switch to all switches that wires join to that switch,
-- the tables are right by the order that grows by the implied one
abbrev pub WholeTablesGrow : Type 0
WholeTablesGrow =
    (facts : Facts) (tables : HeldPlan) (preferred taken : List ℕ) → ComeEverywhere (cells_of facts) tables
    → IsImpliedOrder (cells_of facts) tables preferred (Some taken)
    → IsRightByGrown (cells_of facts) tables (told_positions taken (length (edges_in (cells_of facts))))
