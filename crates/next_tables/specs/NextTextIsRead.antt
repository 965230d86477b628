-- The text of a step is read back as the step's tables.
use Rattle.std.specs.Prelude.{◌≤◌, ℕ, List}
use Rattle.fact_store.specs.View.{Facts, cells_of, AreInRange}
use Rattle.plan_tables.specs.Lids.{IsNoRoom}
use Rattle.plan_tables.specs.Plan.{PlanValue, plan_of}
use Rattle.plan_tables.specs.Rule.{RuleValue}
use Rattle.held_tables.specs.Held.{HeldPlan}
use Rattle.plan_tables.specs.PlanRanges.{IsPlanInRange}
use Rattle.plan_tables.specs.PlanTables.{held_plan}
use Rattle.tables_file.specs.PrintedTextIsRead.{IsHeldInRange, Says}
use Rattle.tables_file.specs.Reading.{held_of}
use Rattle.tables_file.specs.PrintedTables.{next_text}
use Rattle.next_tables.specs.NextTables.{StepRuleValue, next_tables}

-- the text of the next tables towards `plan`, by the rule `by`, is read back as these tables
abbrev pub IsStepRead : Facts → StepRuleValue → HeldPlan → PlanValue → Type 0
IsStepRead facts by held plan =
    let next = next_tables (cells_of facts) by held (held_plan plan) in
    Says (next_text plan.given next) next

-- if the facts, the held tables and the plan are in range, the text of the next tables, by each rule of steps, is read
-- back as these tables
abbrev pub NextTextsAreRead : Type 0
NextTextsAreRead =
    (facts : Facts) (by : StepRuleValue) (held : HeldPlan) (plan : PlanValue) → AreInRange facts → IsHeldInRange held
    → IsPlanInRange plan → IsStepRead facts by held plan

-- suppose facts are in range and have room for the LIDs, and the LMC is at most 7. Then the text of a step from the
-- tables of any text towards the plan of these facts is read back as the step's tables
abbrev pub StepTextsAreRead : Type 0
StepTextsAreRead =
    (rule : RuleValue) (lmc : ℕ) (facts : Facts) (by : StepRuleValue) (text : List ℕ) → lmc ≤ 7 → AreInRange facts
    → ¬ (IsNoRoom lmc (cells_of facts))
    → IsStepRead facts by (held_of text) (plan_of rule lmc (cells_of facts))
