-- Steps towards a plan, each of which is handed the order of the step before it, and stages of such steps.
use Rattle.std.specs.Prelude.{◌≡◌, ◌≤◌, ◌<◌, ◌⊎◌, ◌+◌, ◌*◌, ℕ, zero, suc, List, [], ◌∷◌, None, Some, length, slice_get}
use Rattle.fact_store.specs.View.{AreInRange, Facts, cells_of}
use Rattle.subnet_view.specs.declared.end_port.EndPort.{EndPort}
use Rattle.subnet_view.specs.Reading.{Cells, switches}
use Rattle.held_tables.specs.Held.{HeldPlan}
use Rattle.held_tables.specs.declared.held.HeldLid.{HeldLid}
use Rattle.held_tables.specs.Tables.{entry_for, owners_of}
use Rattle.packet_walks.specs.declared.packet_end.End.TheVariants.{Taken}
use Rattle.packet_walks.specs.declared.next_hop.NextHop.TheVariants.{Ends}
use Rattle.next_tables.specs.SwitchPositions.{AreRight, switch_at}
use Rattle.next_tables.specs.SettledRule.{step_at}
use Rattle.next_tables.specs.NextTables.{IsKept}
use Rattle.next_tables.specs.OrderedStepLaws.{DeliverFrom}
use Rattle.two_orders.specs.Growth.{positions_in}
use Rattle.two_orders.specs.LabelLaws.{grown_twice}
use Rattle.held_order.specs.Agreement.{AreGrown, AreRightBy, ComeEverywhere, IsRightByGrown, TellsPositions, order_of_plan}
use Rattle.held_order.specs.Between.{Goal, IsGoal, goal_between}
use Rattle.held_order.specs.GoalLaws.{AreGoalSteps, IsGoalLine, next_towards}
use Rattle.held_order.specs.Orders.{edges_in}

-- tables that are right for every LID by some order of the switches have a goal, whatever the preferred positions are
abbrev pub RightTablesHaveGoals : Type 0
RightTablesHaveGoals =
    (facts : Facts) (tables plan : HeldPlan) (by preferred : List ℕ) (q : ℕ → ℕ)
    → ((lid : ℕ) → 1 ≤ lid → AreRight (cells_of facts) q tables lid)
    → IsGoal (cells_of facts) tables plan by preferred None → ⊥

-- the preferred positions of a step: those in the first order of the step before it, and `preferred` at first
abbrev pub handed : List ℕ → (ℕ → Goal) → ℕ → List ℕ
handed preferred goals zero = preferred
handed preferred goals (suc n) = (goals n).positions

-- the first `count` steps of a sequence go towards the plan, and each after the first is handed the first order of the
-- step before it
pub record AreHandedSteps (facts : Facts) (by preferred : List ℕ) (plan : HeldPlan) (tables : ℕ → HeldPlan)
    (goals : ℕ → Goal) (count : ℕ) : Type 0 where
  pub goal_is : (n : ℕ) → n < count
      → IsGoal (cells_of facts) (tables n) plan by (handed preferred goals n) (Some (goals n))
  pub step_is : (n : ℕ) → n < count → tables (suc n) ≡ next_towards facts (tables n) (goals n)

-- suppose `tables 0` are right by the order that grows by the order that they imply. Then both orders stay in all
-- handed steps: the first is this grown order, and the second grows by the plan's positions along the tree of the
-- first. All tables are right by the first order
abbrev pub HandedOrdersStay : Type 0
HandedOrdersStay =
    (facts : Facts) (by preferred : List ℕ) (plan : HeldPlan) (tables : ℕ → HeldPlan) (goals : ℕ → Goal) (count : ℕ)
    → AreHandedSteps facts by preferred plan tables goals count
    → (told : TellsPositions (cells_of facts) (tables 0) preferred)
    → IsRightByGrown (cells_of facts) (tables 0) told.positions
    → ((n : ℕ) → n < count → goals n
    ≡ goal_between (cells_of facts) (grown_twice (edges_in (cells_of facts)) told.positions by) (tables n) plan)
    × ((n : ℕ) → n ≤ count
    → AreRightBy (cells_of facts) (grown_twice (edges_in (cells_of facts)) told.positions by).first (tables n))

-- suppose `tables 0` are right by the order that grows by the order that they imply. Let the end port of a goal line
-- alone hold the LID, in `tables 0` and in the plan, and let each entry for the LID in `tables 0` be 255 or deliver.
-- Then handed steps are goal steps for the LID
abbrev pub HandedStepsAreGoalSteps : Type 0
HandedStepsAreGoalSteps =
    (facts : Facts) (by preferred : List ℕ) (plan : HeldPlan) (tables : ℕ → HeldPlan) (goals : ℕ → Goal) (count : ℕ)
    → AreHandedSteps facts by preferred plan tables goals count
    → (told : TellsPositions (cells_of facts) (tables 0) preferred)
    → IsRightByGrown (cells_of facts) (tables 0) told.positions
    → (line : HeldLid) → IsGoalLine (cells_of facts) plan line → IsKept (tables 0) plan line
    → ((i g : ℕ) → slice_get (switches (cells_of facts)) i ≡ Some g → (entry_for (tables 0) line.lid g ≡ 255)
    ⊎ DeliverFrom (cells_of facts) (tables 0) line i)
    → (all : ℕ → HeldPlan) × AreGoalSteps facts told.positions by plan line all
    × ((n : ℕ) → n ≤ count → tables n ≡ all n)

-- `lid` is a LID of the switch at index `i`: in the plan this switch alone holds the LID, and takes packets for the
-- LID
pub record IsOwnLid (cells : Cells) (plan : HeldPlan) (i lid : ℕ) : Type 0 where
  pub some : 1 ≤ lid
  pub alone : owners_of plan lid ≡ record { node = switch_at cells i; port = 0 } ∷ []
  pub takes : step_at cells plan lid (switch_at cells i) ≡ Ends (Taken (record { node = switch_at cells i; port = 0 }))

-- in the plan, each LID is held by no end port, or by one alone. In the latter case, no usable switch has a top below
-- the LID. If some tables that give the LID to that end port alone deliver there from a switch, the plan delivers
-- there from that switch, too
pub record IsWholePlan (cells : Cells) (plan : HeldPlan) : Type 0 where
  pub lines : (lid : ℕ) → 1 ≤ lid → (owners_of plan lid ≡ [])
      ⊎ ((port : EndPort) × (owners_of plan lid ≡ port ∷ [])
      × IsGoalLine cells plan (record { lid = lid; port = port }))
  pub delivers : (tables : HeldPlan) (line : HeldLid) → IsKept tables plan line → (i : ℕ)
      → DeliverFrom cells tables line i → DeliverFrom cells plan line i

-- each usable switch has a LID in the plan
abbrev pub HaveOwnLids : Cells → HeldPlan → Type 0
HaveOwnLids cells plan = (i : ℕ) → i < length (switches cells) → (lid : ℕ) × IsOwnLid cells plan i lid

-- suppose the facts are in range, and `tables 0` are right by the order that grows by the order that they imply. Then
-- after 2n + 2 or more handed steps towards a whole plan, where n is the number of switches, no further handed step
-- changes the tables
abbrev pub HandedStepsEnd : Type 0
HandedStepsEnd =
    (facts : Facts) → AreInRange facts → (by preferred : List ℕ) (plan : HeldPlan) (tables : ℕ → HeldPlan)
    (goals : ℕ → Goal) (count : ℕ)
    → AreHandedSteps facts by preferred plan tables goals count
    → (told : TellsPositions (cells_of facts) (tables 0) preferred)
    → IsRightByGrown (cells_of facts) (tables 0) told.positions → IsWholePlan (cells_of facts) plan
    → (m : ℕ) → 2 * length (switches (cells_of facts)) + 2 ≤ m → m < count → tables (suc m) ≡ tables m

-- the number of steps `count` is at least 2n + 2, where n is the number of switches, or the last step changes nothing
abbrev pub AreDone : Cells → (ℕ → HeldPlan) → ℕ → Type 0
AreDone cells tables count =
    (2 * length (switches cells) + 2 ≤ count)
    ⊎ ((last : ℕ) × (count ≡ suc last) × (tables (suc last) ≡ tables last))

-- a stage from `start` to `end`: handed steps towards a plan, until there are at least 2n + 2 steps, where n is the
-- number of switches, or the last one changes nothing. In the first step, of the orders that `start` implies, the one
-- nearest to the plan's is taken
pub record IsStage (facts : Facts) (by : List ℕ) (plan start end : HeldPlan) : Type 0 where
  pub tables : ℕ → HeldPlan
  pub goals : ℕ → Goal
  pub count : ℕ
  pub are : AreHandedSteps facts by by plan tables goals count
  pub done : AreDone (cells_of facts) tables count
  pub begins : tables 0 ≡ start
  pub ends : tables count ≡ end

-- suppose the facts are in range, and a stage goes towards a whole plan in which each usable switch has a LID. If the
-- tables at the beginning of the stage are right by the order that grows by the one that they imply, packets get, under
-- the tables at its end, from each switch to all switches that wires join to that switch
abbrev pub StagesMakeWhole : Type 0
StagesMakeWhole =
    (facts : Facts) → AreInRange facts → (by : List ℕ) (plan start end : HeldPlan) → IsWholePlan (cells_of facts) plan
    → HaveOwnLids (cells_of facts) plan → IsStage facts by plan start end → AreGrown (cells_of facts) start by
    → ComeEverywhere (cells_of facts) end

-- suppose the facts are in range, and stages go towards a whole plan in which each usable switch has a LID. Let the
-- first tables imply an order, and be right by the order that grows by it. Then after n - 1 or more stages, where n is
-- the number of switches, the tables are right by the plan's order
abbrev pub StagesAreFew : Type 0
StagesAreFew =
    (facts : Facts) → AreInRange facts → (by : List ℕ) (plan : HeldPlan) (tables : ℕ → HeldPlan) (count : ℕ)
    → IsWholePlan (cells_of facts) plan → HaveOwnLids (cells_of facts) plan
    → TellsPositions (cells_of facts) (tables 0) by → AreGrown (cells_of facts) (tables 0) by
    → ((k : ℕ) → k < count → IsStage facts by plan (tables k) (tables (suc k)))
    → length (switches (cells_of facts)) ≤ suc count
    → AreRightBy (cells_of facts)
    (positions_in (order_of_plan (cells_of facts) by) (length (edges_in (cells_of facts)))) (tables count)
