-- The text of tables is read back as these tables, even if each switch has its own top.
use Rattle.std.specs.Prelude.{◌≡◌, ◌≤◌, ℕ, List, map, None}
use Rattle.std.specs.List.{AllByRecursion}
use Rattle.plan_tables.specs.Plan.{PlanValue, SwitchTable, plan_of}
use Rattle.held_tables.specs.declared.held.HeldSwitch.{HeldSwitch}
use Rattle.held_tables.specs.Held.{HeldPlan}
use Rattle.plan_tables.specs.PlanRanges.{IsBlock, IsPlanInRange}
use Rattle.plan_tables.specs.PlanTables.{blocks_of, owned_lids, with_top, held_plan}
use Rattle.tables_file.specs.Reading.{first_fault, held_of}
use Rattle.tables_file.specs.PrintedTables.{next_text}
use Rattle.fact_store.specs.View.{Facts, cells_of, AreInRange}
use Rattle.plan_tables.specs.Lids.{IsNoRoom}
use Rattle.plan_tables.specs.Rule.{RuleValue}
use Rattle.plan_tables.specs.PlanText.{plan_text}

-- the text has no fault, and what it says is `held`
abbrev pub Says : List ℕ → HeldPlan → Type 0
Says text held = (first_fault text ≡ None) × (held_of text ≡ held)

-- the switch of `table` with its own top, which `top` gives for its GUID
abbrev pub with_own_top : (ℕ → ℕ) → SwitchTable → HeldSwitch
with_own_top top table = with_top (top table.guid) table

-- the top of each switch of `tables`, which `top` gives for its GUID, is at most 0xBFFF
abbrev pub AreTops : (ℕ → ℕ) → List SwitchTable → Type 0
AreTops top tables = AllByRecursion (λ table. top table.guid ≤ 0xBFFF) tables

-- the LIDs of `plan` with their owners, and its switches with their blocks and with the tops that `top` gives for
-- their GUIDs
abbrev pub held_under : (ℕ → ℕ) → PlanValue → HeldPlan
held_under top plan = record {
  lids = owned_lids plan.given;
  switches = map (with_own_top top) plan.tables;
  blocks = blocks_of 0 plan.tables;
}

-- if the numbers of a plan are in range, and the own top of each switch is at most 0xBFFF, the text of the plan's
-- tables under these tops has no fault, and says these tables
abbrev pub PrintedTablesAreRead : Type 0
PrintedTablesAreRead =
    (top : ℕ → ℕ) (plan : PlanValue) → IsPlanInRange plan → AreTops top plan.tables
    → Says (next_text plan.given (held_under top plan)) (held_under top plan)

-- each top of `held` is at most 0xBFFF, and each block has 64 entries, each a byte
pub record IsHeldInRange (held : HeldPlan) : Type 0 where
  pub tops : AllByRecursion (λ switch. switch.top ≤ 0xBFFF) held.switches
  pub blocks : AllByRecursion (λ block. IsBlock block.entries) held.blocks

-- the tops and blocks that a text gives are in range, whatever the text is
abbrev pub TextsAreInRange : Type 0
TextsAreInRange = (text : List ℕ) → IsHeldInRange (held_of text)

-- the text of a plan has no fault, and says the tables of the plan
abbrev pub IsRead : PlanValue → Type 0
IsRead plan = (first_fault (plan_text plan) ≡ None) × (held_of (plan_text plan) ≡ held_plan plan)

-- if the numbers of a plan are in range, its text has no fault, and says the tables of the plan
abbrev pub PrintedPlansAreRead : Type 0
PrintedPlansAreRead = (plan : PlanValue) → IsPlanInRange plan → IsRead plan

-- if facts are in range and every end port finds a LID under an LMC up to 7, the text of their plan by any rule under
-- this LMC has no fault, and says the tables of the plan
abbrev pub PlansAreRead : Type 0
PlansAreRead =
    (rule : RuleValue) (lmc : ℕ) (facts : Facts) → lmc ≤ 7 → AreInRange facts → ¬ (IsNoRoom lmc (cells_of facts))
    → IsRead (plan_of rule lmc (cells_of facts))
