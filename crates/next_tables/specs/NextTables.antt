-- The tables to write next, for all LIDs, by each rule of steps.
use Rattle.std.specs.Prelude.{◌≡◌, ℕ, ◌+◌, ◌*◌, Bool, true, false, List, [], ◌∷◌, Option, None, Some, map, max, not, option_map, unwrap_or, if◌then◌else◌}
use Rattle.std.specs.List.{find, range_with_len}
use Rattle.subnet_view.specs.declared.end_port.EndPort.{EndPort}
use Rattle.subnet_view.specs.Reading.{Cells, switches}
use Rattle.plan_tables.specs.Entries.{block_count}
use Rattle.plan_tables.specs.Plan.{SwitchTable}
use Rattle.held_tables.specs.declared.held.HeldLid.{HeldLid}
use Rattle.held_tables.specs.declared.held.HeldSwitch.{HeldSwitch}
use Rattle.held_tables.specs.Held.{HeldPlan}
use Rattle.plan_tables.specs.PlanTables.{blocks_of}
use Rattle.held_tables.specs.Owners.{is_sole}
use Rattle.held_tables.specs.Switches.{index_in}
use Rattle.held_tables.specs.Tables.{owners_of, is_same_end, entry_for, top_of}
use Rattle.next_tables.specs.declared.step_fault.StepFault.{StepFault}
use Rattle.next_tables.specs.declared.step_fault.StepFault.TheVariants.{Moves, Memory}
use Rattle.next_tables.specs.declared.step_rule.StepRule.{StepRule}
use Rattle.next_tables.specs.declared.step_rule.StepRule.TheVariants.{SettledFirst, ByOrder}
use Rattle.next_tables.specs.OrderRule.{next_by_order}
use Rattle.next_tables.specs.SwitchPositions.{position_at}
use Rattle.next_tables.specs.SettledRule.{next_entry}

-- an end port other than the port of `line` holds the LID of `line` in the held tables
abbrev pub moves : HeldPlan → HeldLid → Bool
moves held line = not (is_sole line.port (owners_of held line.lid))

-- the first LID that the plan gives to an end port and that another end port holds in the held tables; None if there
-- is no such LID
abbrev pub first_moved : HeldPlan → HeldPlan → Option ℕ
first_moved held plan = option_map (λ line. line.lid) (find (moves held) plan.lids)

-- `e` if it is the only end port in the list; otherwise None
abbrev pub kept_by : EndPort → List EndPort → Option EndPort
kept_by e [] = None
kept_by e (x ∷ []) = if is_same_end e x then Some e else None
kept_by e (x ∷ y ∷ xs) = None

-- the end port that alone owns a LID in the plan and in the held tables; None if there is none. The first list has
-- the LID's owners in the plan, and `held` those in the held tables
abbrev pub keeper : List EndPort → List EndPort → Option EndPort
keeper [] held = None
keeper (e ∷ []) held = kept_by e held
keeper (e ∷ x ∷ es) held = None

-- `entry`, if the plan's list of a LID's owners is not empty, otherwise 255
abbrev pub if_owned : List EndPort → ℕ → ℕ
if_owned [] entry = 255
if_owned (e ∷ es) entry = entry

-- the next entry of switch `g` for `lid` by settled entries: `next_entry` towards the given end port. For None, it is
-- the plan's entry, or 255 if `planned`, the LID's owners in the plan, is empty
abbrev pub next_for : Cells → HeldPlan → HeldPlan → ℕ → List EndPort → Option EndPort → ℕ → ℕ
next_for cells held plan lid planned None g = if_owned planned (entry_for plan lid g)
next_for cells held plan lid planned (Some port) g = next_entry cells held plan (record { lid = lid; port = port }) g

-- a rule by which a step chooses entries: a switch takes the plan's entry once each switch on the plan's route has it
-- (`settled_first`); or entries are chosen by an order, given as the position of each switch, in ascending order of
-- GUID (`by_order`)
pub data StepRuleValue : Type 0 where
  settled_first : StepRuleValue
  by_order : List ℕ → StepRuleValue

-- the rule of steps that a `StepRule` of the code stands for
abbrev pub value_of : StepRule → StepRuleValue
value_of SettledFirst = settled_first
value_of (ByOrder positions) = by_order positions.items

-- if `g` is a usable switch, the index of `g` among the usable switches; otherwise 0
abbrev pub index_at : Cells → ℕ → ℕ
index_at cells g = unwrap_or (index_in (switches cells) g) 0

-- the next entry of switch `g`, at index `i`, for `lid` by an order, towards the first of the LID's owners in the plan;
-- 255 if the LID has no owner in the plan
abbrev pub ordered_for : Cells → (ℕ → ℕ) → HeldPlan → HeldPlan → ℕ → List EndPort → ℕ → ℕ → ℕ
ordered_for cells q held plan lid [] i g = 255
ordered_for cells q held plan lid (port ∷ ports) i g =
    next_by_order cells q held plan (record { lid = lid; port = port }) i g

-- the next entry of switch `g` for `lid`. By settled entries, it is `next_entry` if the same end port alone holds the
-- LID in both tables. Otherwise it is the plan's entry, or 255 for a LID that the plan lacks. By an order, it is
-- `ordered_for`
unfoldable pub next_at : Cells → StepRuleValue → HeldPlan → HeldPlan → ℕ → ℕ → ℕ
next_at cells settled_first held plan lid g =
    next_for cells held plan lid (owners_of plan lid) (keeper (owners_of plan lid) (owners_of held lid)) g
next_at cells (by_order positions) held plan lid g =
    ordered_for cells (position_at positions) held plan lid (owners_of plan lid) (index_at cells g) g

-- the next entries of all usable switches for `lid`, by the rule
abbrev pub column_of : Cells → StepRuleValue → HeldPlan → HeldPlan → ℕ → List ℕ
column_of cells rule held plan lid = map (next_at cells rule held plan lid) (switches cells)

-- the end port of `line` alone holds the LID of `line`, in the plan and in the held tables
pub record IsKept (held plan : HeldPlan) (line : HeldLid) : Type 0 where
  pub in_plan : owners_of plan line.lid ≡ line.port ∷ []
  pub in_held : owners_of held line.lid ≡ line.port ∷ []

-- the greater of the tops of switch `g` in the held tables and in the plan
abbrev pub next_top : HeldPlan → HeldPlan → ℕ → ℕ
next_top held plan g = max (top_of held g) (top_of plan g)

-- switch `g` with the greater of its tops in the held tables and in the plan
abbrev pub next_switch : HeldPlan → HeldPlan → ℕ → HeldSwitch
next_switch held plan g = record { guid = g; top = next_top held plan g }

-- block number `b` of switch `g`, with the next entries by the rule
abbrev pub next_block : Cells → StepRuleValue → HeldPlan → HeldPlan → ℕ → ℕ → List ℕ
next_block cells rule held plan g b = map (λ i. next_at cells rule held plan (64 * b + i) g) (range_with_len 0 64)

-- switch `g` with its blocks of next entries, up to the block of its next top
abbrev pub next_table : Cells → StepRuleValue → HeldPlan → HeldPlan → ℕ → SwitchTable
next_table cells rule held plan g = record {
  guid = g;
  blocks = map (next_block cells rule held plan g) (range_with_len 0 (block_count (Some (next_top held plan g))));
}

-- the plan's LIDs and, for each usable switch, its next entries and the greater of its tops in the held tables and in
-- the plan
unfoldable pub next_tables : Cells → StepRuleValue → HeldPlan → HeldPlan → HeldPlan
next_tables cells rule held plan = record {
  lids = plan.lids;
  switches = map (next_switch held plan) (switches cells);
  blocks = blocks_of 0 (map (next_table cells rule held plan) (switches cells));
}

-- if a LID moves from one end port to another, the fault of a step that says so; None if no LID is given
abbrev pub step_fault : Option ℕ → Option StepFault
step_fault None = None
step_fault (Some lid) = Some (Moves lid)

-- the fault is that memory ran out
abbrev pub is_memory : StepFault → Bool
is_memory (Moves lid) = false
is_memory Memory = true
