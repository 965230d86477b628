-- A bound on the number of steps in a phase of a plan, known before there is a plan.
use Rattle.std.specs.Prelude.{◌≤◌, ◌+◌, ◌*◌, ℕ, List, length}
use Rattle.std.specs.List.{AllByRecursion}
use Rattle.fact_store.specs.View.{Facts, cells_of}
use Rattle.subnet_view.specs.Reading.{Cells, switches}
use Rattle.lid_assign.specs.Lids.{IsNoRoom}
use Rattle.lft_blocks.specs.Rule.{RuleValue}
use Rattle.lft_blocks.specs.Plan.{plan_of}
use Rattle.sweep.specs.Sweep.{Sweep}
use Rattle.plan_steps.specs.Phase.{phases_by}
use Rattle.multicast_tree.specs.Tree.{TreePorts}

-- a bound on the steps of a phase: one step for each number below 0xC000, one for each block of these numbers at each
-- usable switch, and one for each cell
abbrev pub most_steps : Cells → ℕ
most_steps cells = 0xC000 + 768 * length (switches cells) + length cells

-- if every end port finds a LID, and a tree has no more switches than are usable, no phase in which the two are written
-- has more than `most_steps` steps
abbrev pub PhaseBoundLaw : Type 0
PhaseBoundLaw =
    (rule : RuleValue) (lmc : ℕ) (facts : Facts) (s : Sweep) (master : ℕ) → ¬ (IsNoRoom lmc (cells_of facts))
    → (tree : List TreePorts) → length tree ≤ length (switches (cells_of facts))
    → AllByRecursion (λ p. length p.steps
    ≤ most_steps (cells_of facts)) (phases_by (plan_of rule lmc (cells_of facts)) tree (cells_of facts) s master)
