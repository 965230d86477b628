-- The tables of a plan are right by the order of switches by which the plan was made, and steps towards the plan end
-- in the plan.
use Rattle.std.specs.Prelude.{◌≡◌, ◌≤◌, ◌<◌, ◌*◌, ℕ, suc, Contains, Some, length, slice_get}
use Rattle.fact_store.specs.View.{Facts, cells_of, AreInRange}
use Rattle.subnet_view.specs.EndPort.{end_ports}
use Rattle.subnet_view.specs.Reading.{Cells, switches}
use Rattle.lid_assign.specs.Lids.{IsNoRoom}
use Rattle.lft_blocks.specs.Plan.{plan_of}
use Rattle.lft_blocks.specs.Rule.{RuleValue, routing_by}
use Rattle.plan_order.specs.PlanOrder.{positions_by}
use Rattle.held_tables.specs.declared.held.HeldLid.{HeldLid}
use Rattle.held_tables.specs.Held.{HeldPlan}
use Rattle.plan_tables.specs.PlanTables.{held_plan}
use Rattle.held_tables.specs.Tables.{entry_for, owners_of}
use Rattle.next_tables.specs.OrderRule.{IsNextByOrder, numbers_by}
use Rattle.next_tables.specs.SwitchPositions.{AreApart, AreRight, IsOrder, IsWired, Leads, position_at, switch_at}
use Rattle.next_tables.specs.Mixtures.{RiseInStep}
use Rattle.next_tables.specs.OrderedStepLaws.{AreNextByOrder, DeliverFrom}

-- if facts are in range and have room, and their plan sends packets for a LID along two channels one after the other,
-- the rule's number of the second is greater than that of the first
abbrev pub PlanTurnsRise : Type 0
PlanTurnsRise =
    (rule : RuleValue) (lmc : ℕ) (facts : Facts) → AreInRange facts → ¬ (IsNoRoom lmc (cells_of facts))
    → (lid i j k : ℕ) → 1 ≤ lid → Leads (cells_of facts) (held_plan (plan_of rule lmc (cells_of facts))) lid i j
    → Leads (cells_of facts) (held_plan (plan_of rule lmc (cells_of facts))) lid j k
    → (routing_by rule (cells_of facts)).channel (switch_at (cells_of facts) i) (switch_at (cells_of facts) j)
    < (routing_by rule (cells_of facts)).channel (switch_at (cells_of facts) j) (switch_at (cells_of facts) k)

-- the position of the switch at an index in the order of a rule
abbrev pub plan_position : RuleValue → Cells → ℕ → ℕ
plan_position rule cells = position_at (positions_by rule cells)

-- if facts are in range and have room, their plan is right for every LID by the positions of its rule
abbrev pub PlansAreRight : Type 0
PlansAreRight =
    (rule : RuleValue) (lmc : ℕ) (facts : Facts) → AreInRange facts → ¬ (IsNoRoom lmc (cells_of facts))
    → (lid : ℕ) → 1 ≤ lid
    → AreRight (cells_of facts) (plan_position rule (cells_of facts))
    (held_plan (plan_of rule lmc (cells_of facts))) lid

-- the positions of a rule are an order, in which two different switches that a wire joins have different positions
abbrev pub PlanOrdersAreOrders : Type 0
PlanOrdersAreOrders =
    (rule : RuleValue) (facts : Facts)
    → IsOrder (cells_of facts) (plan_position rule (cells_of facts))
    × AreApart (cells_of facts) (plan_position rule (cells_of facts))

-- suppose facts are in range and have room. For a LID that their plan gives to one of their end ports, if the plan
-- delivers from a switch, the plan delivers from each usable switch with a wire to that one
abbrev pub PlansCover : Type 0
PlansCover =
    (rule : RuleValue) (lmc : ℕ) (facts : Facts) → AreInRange facts → ¬ (IsNoRoom lmc (cells_of facts))
    → (line : HeldLid) → Contains (held_plan (plan_of rule lmc (cells_of facts))).lids line
    → Contains (end_ports (cells_of facts)) line.port
    → (i j : ℕ) → i < length (switches (cells_of facts)) → IsWired (cells_of facts) i j
    → DeliverFrom (cells_of facts) (held_plan (plan_of rule lmc (cells_of facts))) line j
    → DeliverFrom (cells_of facts) (held_plan (plan_of rule lmc (cells_of facts))) line i

-- suppose facts are in range and have room, and the held tables are right by the positions of the plan's rule. Then
-- in a step towards the plan of these facts, for all LIDs, the channels' numbers by these positions rise, and the
-- next tables are right by these positions
abbrev pub StepsTowardsPlans : Type 0
StepsTowardsPlans =
    (rule : RuleValue) (lmc : ℕ) (facts : Facts) → AreInRange facts → ¬ (IsNoRoom lmc (cells_of facts))
    → (held next : HeldPlan)
    → ((lid : ℕ) → 1 ≤ lid → AreRight (cells_of facts) (plan_position rule (cells_of facts)) held lid)
    → AreNextByOrder (cells_of facts) (plan_position rule (cells_of facts)) held
    (held_plan (plan_of rule lmc (cells_of facts))) next
    → RiseInStep (cells_of facts) held next (numbers_by (cells_of facts) (plan_position rule (cells_of facts)))
    × ((lid : ℕ) → 1 ≤ lid → AreRight (cells_of facts) (plan_position rule (cells_of facts)) next lid)

-- suppose facts are in range and have room, and for the LID of `line`, which is not 0, the first tables are right by
-- the plan's positions and have the plan's owners. Then after 2n or more steps by the plan's order towards the plan
-- of these facts, where n is the number of switches, each switch from which the plan delivers to the end port of
-- `line` has the plan's entry, and the tables deliver from this switch
abbrev pub StepsEndInPlans : Type 0
StepsEndInPlans =
    (rule : RuleValue) (lmc : ℕ) (facts : Facts) → AreInRange facts → ¬ (IsNoRoom lmc (cells_of facts))
    → (line : HeldLid) → Contains (held_plan (plan_of rule lmc (cells_of facts))).lids line
    → Contains (end_ports (cells_of facts)) line.port
    → (tables : ℕ → HeldPlan) → owners_of (held_plan (plan_of rule lmc (cells_of facts))) line.lid
    ≡ owners_of (tables 0) line.lid
    → AreRight (cells_of facts) (plan_position rule (cells_of facts)) (tables 0) line.lid
    → ((n : ℕ) → IsNextByOrder (cells_of facts) (plan_position rule (cells_of facts)) (tables n)
    (held_plan (plan_of rule lmc (cells_of facts))) line (tables (suc n)))
    → (i g m : ℕ) → 1 ≤ line.lid → slice_get (switches (cells_of facts)) i ≡ Some g
    → DeliverFrom (cells_of facts) (held_plan (plan_of rule lmc (cells_of facts))) line i
    → 2 * length (switches (cells_of facts)) ≤ m
    → (entry_for (tables m) line.lid g ≡ entry_for (held_plan (plan_of rule lmc (cells_of facts))) line.lid g)
    × DeliverFrom (cells_of facts) (tables m) line i
