-- How the plan of a manager's facts compares to the plan that it wrote last.
use Rattle.std.specs.Prelude.{ℕ, Bool, ◌&&◌, List, length, ◌==◌, if◌then◌else◌, Option, Some, None, is_none}
use Rattle.std.specs.Cmp.Lexicographic.{pointwise}
use Rattle.std.specs.List.{list_all, zip}
use Rattle.fact_store.specs.View.{cells_of}
use Rattle.lft_blocks.specs.Plan.{PlanValue, SwitchTable, plan_of}
use Rattle.subnet_view.specs.declared.end_port.EndPort.{EndPort}
use Rattle.sm_manager.specs.Manager.{Manager}
use Rattle.sm_manager.specs.PlanFaults.{plan_fault}
use Rattle.sm_policy.specs.declared.comparison.Comparison.{Comparison}
use Rattle.sm_policy.specs.declared.comparison.Comparison.TheVariants.{NoPlan, Same, Differs}

-- the plan of the manager's facts; None if some end port finds no LID
abbrev pub planned : Manager → Option PlanValue
planned m =
    if is_none (plan_fault m.planning.lmc (cells_of m.store))
    then Some (plan_of m.planning.rule m.planning.lmc (cells_of m.store))
    else None

-- whether both are the same end port with the same LID
abbrev pub is_same_lid : EndPort × ℕ → EndPort × ℕ → Bool
is_same_lid one other = one.0.node == other.0.node && (one.0.port == other.0.port && one.1 == other.1)

-- whether each of `one` is that of `other` at the same index, as far as both go
abbrev pub share_lids : List (EndPort × ℕ) → List (EndPort × ℕ) → Bool
share_lids one other = list_all (λ pair. is_same_lid pair.0 pair.1) (zip one other)

-- whether both lists have the same end ports with the same LIDs, in the same order
abbrev pub are_same_lids : List (EndPort × ℕ) → List (EndPort × ℕ) → Bool
are_same_lids one other = length one == length other && share_lids one other

-- whether both are the table of the same switch with the same blocks
abbrev pub is_same_table : SwitchTable → SwitchTable → Bool
is_same_table one other = one.guid == other.guid && pointwise (pointwise (◌==◌)) one.blocks other.blocks

-- whether each of `one` is that of `other` at the same index, as far as both go
abbrev pub share_tables : List SwitchTable → List SwitchTable → Bool
share_tables one other = list_all (λ pair. is_same_table pair.0 pair.1) (zip one other)

-- whether both lists have the same tables, in the same order
abbrev pub are_same_tables : List SwitchTable → List SwitchTable → Bool
are_same_tables one other = length one == length other && share_tables one other

-- whether two plans of one LMC are the same
abbrev pub is_same_plan : PlanValue → PlanValue → Bool
is_same_plan one other = are_same_lids one.given.ports other.given.ports && are_same_tables one.tables other.tables

-- how `plan` compares to the plan that was written last, if one was
abbrev pub compared : Option PlanValue → PlanValue → Comparison
compared None plan = Differs
compared (Some kept) plan = if is_same_plan plan kept then Same else Differs

-- how the given plan, if there is one, compares to the plan that was written last
abbrev pub comparison_of : Option PlanValue → Option PlanValue → Comparison
comparison_of kept None = NoPlan
comparison_of kept (Some plan) = compared kept plan
