-- The plan of a view is whole and gives switches LIDs, as stages of steps require.
use Rattle.std.specs.Prelude.{ℕ, Contains}
use Rattle.fact_store.specs.View.{Facts, cells_of, AreInRange}
use Rattle.subnet_view.specs.Reading.{Cells, switches}
use Rattle.subnet_view.specs.EndPort.{end_ports}
use Rattle.lid_assign.specs.Lids.{IsNoRoom}
use Rattle.lft_blocks.specs.Plan.{plan_of}
use Rattle.lft_blocks.specs.Rule.{RuleValue}
use Rattle.plan_tables.specs.PlanTables.{held_plan}
use Rattle.next_run.specs.HandedStages.{HaveOwnLids, IsWholePlan}

-- if facts are in range and have room, their plan is whole (`IsWholePlan`)
abbrev pub PlansAreWhole : Type 0
PlansAreWhole =
    (rule : RuleValue) (lmc : ℕ) (facts : Facts) → AreInRange facts → ¬ (IsNoRoom lmc (cells_of facts))
    → IsWholePlan (cells_of facts) (held_plan (plan_of rule lmc (cells_of facts)))

-- port 0 of each usable switch is an end port: its GUID is known
abbrev pub SwitchesAreEndPorts : Cells → Type 0
SwitchesAreEndPorts cells =
    (g : ℕ) → Contains (switches cells) g → Contains (end_ports cells) (record { node = g; port = 0 })

-- if facts are in range and have room, and port 0 of each usable switch is an end port, each usable switch has a LID in
-- their plan
abbrev pub PlansGiveOwnLids : Type 0
PlansGiveOwnLids =
    (rule : RuleValue) (lmc : ℕ) (facts : Facts) → AreInRange facts → ¬ (IsNoRoom lmc (cells_of facts))
    → SwitchesAreEndPorts (cells_of facts)
    → HaveOwnLids (cells_of facts) (held_plan (plan_of rule lmc (cells_of facts)))
