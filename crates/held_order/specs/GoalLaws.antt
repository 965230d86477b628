-- Laws of tables between two orders, and of steps towards them: right by both orders, and reached in 2n steps.
use Rattle.std.specs.Prelude.{◌≡◌, ◌≤◌, ◌<◌, ◌⊎◌, ◌*◌, ℕ, suc, Contains, List, Some, length, slice_get}
use Rattle.fact_store.specs.View.{AreInRange, Facts, cells_of}
use Rattle.port_graph.specs.Heads.{heads}
use Rattle.port_graph.specs.Walks.{Walk}
use Rattle.subnet_view.specs.Reading.{Cells, switches}
use Rattle.held_tables.specs.Held.{HeldPlan}
use Rattle.held_tables.specs.declared.held.HeldLid.{HeldLid}
use Rattle.held_tables.specs.Tables.{entry_for, owners_of, top_of}
use Rattle.packet_walks.specs.declared.packet_end.End.TheVariants.{Taken}
use Rattle.packet_walks.specs.declared.next_hop.NextHop.TheVariants.{Ends}
use Rattle.next_tables.specs.OrderRule.{IsNextByOrder}
use Rattle.next_tables.specs.SwitchPositions.{AreRight, IsOrder, position_at, switch_at}
use Rattle.next_tables.specs.SettledRule.{step_at}
use Rattle.next_tables.specs.NextTables.{IsKept, by_order, next_tables}
use Rattle.next_tables.specs.OrderedStepLaws.{DeliverFrom, IsLineStep, IsStep}
use Rattle.two_orders.specs.declared.labels.Sides.{Sides}
use Rattle.two_orders.specs.LabelLaws.{grown_twice}
use Rattle.two_orders.specs.Labels.{label_at}
use Rattle.two_orders.specs.TwoOrders.{TwoOrders}
use Rattle.held_order.specs.Between.{Goal, IsGoal}
use Rattle.held_order.specs.TablesBetween.{tables_between, labels_of_line}
use Rattle.held_order.specs.Orders.{edges_in}

-- the tables between two orders are right by both for every LID, whatever the orders, the held tables and the plan are
abbrev pub GoalTurnsWell : Type 0
GoalTurnsWell =
    (facts : Facts) (orders : TwoOrders) (held plan : HeldPlan) (lid : ℕ)
    → AreRight (cells_of facts) (position_at orders.first)
    (tables_between (cells_of facts) (edges_in (cells_of facts)) orders held plan) lid
    × AreRight (cells_of facts) (position_at orders.second)
    (tables_between (cells_of facts) (edges_in (cells_of facts)) orders held plan) lid

-- the port of `line` is the first that has the LID of `line` in the plan. The LID is not 0, and no usable switch has a
-- top below the LID in the plan
pub record IsGoalLine (cells : Cells) (plan : HeldPlan) (line : HeldLid) : Type 0 where
  pub some : 1 ≤ line.lid
  pub first : slice_get (owners_of plan line.lid) 0 ≡ Some line.port
  pub within : (g : ℕ) → Contains (switches cells) g → line.lid ≤ top_of plan g

-- suppose the facts are in range, and the first of two orders gives each switch a position below the number of
-- switches. Then, for the LID of a goal line (`IsGoalLine`), the tables between the two orders deliver from each
-- switch with a label
abbrev pub GoalDelivers : Type 0
GoalDelivers =
    (facts : Facts) → AreInRange facts → (orders : TwoOrders) → IsOrder (cells_of facts) (position_at orders.first)
    → (held plan : HeldPlan) (line : HeldLid) → IsGoalLine (cells_of facts) plan line
    → (i : ℕ) (label : Sides) → label_at (labels_of_line (cells_of facts) orders plan line) i ≡ Some label
    → DeliverFrom (cells_of facts) (tables_between (cells_of facts) (edges_in (cells_of facts)) orders held plan) line i

-- suppose the facts are in range, the first of two orders grows, and the second grows along the tree of the first.
-- Then, for the LID of a goal line (`IsGoalLine`), the tables between the two orders deliver from each switch from
-- which wires lead to a switch whose plan entry leads to the end port
abbrev pub GoalReachesAll : Type 0
GoalReachesAll =
    (facts : Facts) → AreInRange facts → (told by : List ℕ) (held plan : HeldPlan) (line : HeldLid)
    → IsGoalLine (cells_of facts) plan line → (i t n : ℕ) → t < length (switches (cells_of facts))
    → Walk (heads (edges_in (cells_of facts))) i t n
    → step_at (cells_of facts) plan line.lid (switch_at (cells_of facts) t) ≡ Ends (Taken line.port)
    → DeliverFrom (cells_of facts)
    (tables_between (cells_of facts) (edges_in (cells_of facts)) (grown_twice (edges_in (cells_of facts)) told by) held
    plan) line i

-- the tables to write next towards a goal, by the order of the goal
abbrev pub next_towards : Facts → HeldPlan → Goal → HeldPlan
next_towards facts held goal = next_tables (cells_of facts) (by_order goal.positions) held goal.tables

-- the next tables towards the goal of a step are a step by the goal's order, and are right by this order for every
-- LID; so no mixture makes a credit loop
abbrev pub GoalsAreSafe : Type 0
GoalsAreSafe =
    (facts : Facts) (held plan : HeldPlan) (by preferred : List ℕ) (goal : Goal)
    → IsGoal (cells_of facts) held plan by preferred (Some goal)
    → IsStep (cells_of facts) (position_at goal.positions) held goal.tables (next_towards facts held goal)
    × ((lid : ℕ) → 1 ≤ lid → AreRight (cells_of facts) (position_at goal.positions) (next_towards facts held goal) lid)

-- for a LID that one end port alone holds in the held tables and in the plan, the next tables towards a goal are a step
-- of a line by the goal's order; so no packet that the held tables deliver is lost
abbrev pub GoalsFollowTheRule : Type 0
GoalsFollowTheRule =
    (facts : Facts) (held plan : HeldPlan) (by preferred : List ℕ) (goal : Goal) (line : HeldLid)
    → IsGoal (cells_of facts) held plan by preferred (Some goal) → IsKept held plan line → 1 ≤ line.lid
    → IsLineStep (cells_of facts) (position_at goal.positions) held goal.tables line (next_towards facts held goal)

-- if the facts are in range, and each held entry for the LID is 255 or delivers, a step of a goal line towards the
-- tables between two orders leaves these tables as they are for the LID: made from the next tables, they have the
-- same entries as made from the held tables
abbrev pub GoalStandsStill : Type 0
GoalStandsStill =
    (facts : Facts) → AreInRange facts → (orders : TwoOrders) (held plan next : HeldPlan) (line : HeldLid)
    → IsGoalLine (cells_of facts) plan line
    → IsLineStep (cells_of facts) (position_at orders.first) held
    (tables_between (cells_of facts) (edges_in (cells_of facts)) orders held plan) line next
    → ((i g : ℕ) → slice_get (switches (cells_of facts)) i ≡ Some g → (entry_for held line.lid g ≡ 255)
    ⊎ DeliverFrom (cells_of facts) held line i)
    → (i g : ℕ) → slice_get (switches (cells_of facts)) i ≡ Some g
    → entry_for (tables_between (cells_of facts) (edges_in (cells_of facts)) orders next plan) line.lid g
    ≡ entry_for (tables_between (cells_of facts) (edges_in (cells_of facts)) orders held plan) line.lid g

-- `tables n` are the tables for the LID of `line` after n steps. Each step goes from the tables before it towards the
-- tables between two orders, one that grows by `told` and one that grows by `by` along the tree of the first. The
-- first tables have the plan's owners of the LID, and are right by the first order; each of their entries is 255 or
-- delivers
pub record AreGoalSteps (facts : Facts) (told by : List ℕ) (plan : HeldPlan) (line : HeldLid) (tables : ℕ → HeldPlan)
    : Type 0 where
  pub is_line : IsGoalLine (cells_of facts) plan line
  pub owners : owners_of plan line.lid ≡ owners_of (tables 0) line.lid
  pub right : AreRight (cells_of facts)
      (position_at (grown_twice (edges_in (cells_of facts)) told by).first) (tables 0) line.lid
  pub delivering : (i g : ℕ) → slice_get (switches (cells_of facts)) i ≡ Some g
      → (entry_for (tables 0) line.lid g ≡ 255) ⊎ DeliverFrom (cells_of facts) (tables 0) line i
  pub steps : (n : ℕ) → IsNextByOrder (cells_of facts)
      (position_at (grown_twice (edges_in (cells_of facts)) told by).first) (tables n)
      (tables_between (cells_of facts) (edges_in (cells_of facts)) (grown_twice (edges_in (cells_of facts)) told by)
      (tables n) plan) line (tables (suc n))

-- suppose the facts are in range. In steps towards the tables between two orders that grow (`AreGoalSteps`), each
-- switch from which the first goal delivers has that goal's entry after 2n or more steps, where n is the number of
-- switches, and the tables then deliver from this switch
abbrev pub GoalIsReached : Type 0
GoalIsReached =
    (facts : Facts) → AreInRange facts → (told by : List ℕ) (plan : HeldPlan) (line : HeldLid) (tables : ℕ → HeldPlan)
    → AreGoalSteps facts told by plan line tables
    → (i g m : ℕ) → slice_get (switches (cells_of facts)) i ≡ Some g
    → DeliverFrom (cells_of facts)
    (tables_between (cells_of facts) (edges_in (cells_of facts)) (grown_twice (edges_in (cells_of facts)) told by)
    (tables 0) plan) line i
    → 2 * length (switches (cells_of facts)) ≤ m
    → (entry_for (tables m) line.lid g
    ≡ entry_for (tables_between (cells_of facts) (edges_in (cells_of facts))
    (grown_twice (edges_in (cells_of facts)) told by) (tables 0) plan) line.lid g)
    × DeliverFrom (cells_of facts) (tables m) line i

-- suppose the facts are in range, and the first goal delivers from each switch from which the first tables send
-- packets straight to the end port. In steps towards the tables between two orders that grow (`AreGoalSteps`), the
-- tables after 2n or more steps (at least one), where n is the number of switches, are right for the LID by the
-- second order
abbrev pub GoalEndsRight : Type 0
GoalEndsRight =
    (facts : Facts) → AreInRange facts → (told by : List ℕ) (plan : HeldPlan) (line : HeldLid) (tables : ℕ → HeldPlan)
    → AreGoalSteps facts told by plan line tables
    → ((i : ℕ) → i < length (switches (cells_of facts))
    → step_at (cells_of facts) (tables 0) line.lid (switch_at (cells_of facts) i) ≡ Ends (Taken line.port)
    → DeliverFrom (cells_of facts)
    (tables_between (cells_of facts) (edges_in (cells_of facts)) (grown_twice (edges_in (cells_of facts)) told by)
    (tables 0) plan) line i)
    → (m : ℕ) → 1 ≤ m → 2 * length (switches (cells_of facts)) ≤ m
    → AreRight (cells_of facts) (position_at (grown_twice (edges_in (cells_of facts)) told by).second) (tables m)
    line.lid
