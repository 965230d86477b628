-- The next tables of a step as a plan, so that a manager can write them as it writes a plan. InfiniBand Architecture
-- Specification, Volume 1: subnet management, LinearForwardingTable.
use Rattle.std.specs.Prelude.{◌≡◌, ◌≤◌, ◌<◌, ℕ, ◌+◌, ◌*◌, List, Contains, Some, map, slice_get}
use Rattle.subnet_view.specs.Reading.{Cells, switches}
use Rattle.lid_assign.specs.Lids.{Given}
use Rattle.plan_tables.specs.Plan.{PlanValue, block_at}
use Rattle.held_tables.specs.Held.{HeldPlan}
use Rattle.held_tables.specs.Tables.{entry_of}
use Rattle.next_tables.specs.NextTables.{StepRuleValue, next_table, next_tables, next_top}

-- each block of the plan has at least 64 entries
abbrev pub HasWholeBlocks : PlanValue → Type 0
HasWholeBlocks plan =
    (guid n : ℕ) (block : List ℕ) → block_at plan guid n ≡ Some block → (i : ℕ) → i < 64
    → (x : ℕ) × (slice_get block i ≡ Some x)

-- the plan has block number `n` of the switch with the GUID, with the entries of `next` for LIDs from 1 to `top`
abbrev pub HasNextBlock : PlanValue → HeldPlan → ℕ → ℕ → ℕ → Type 0
HasNextBlock plan next top guid n =
    (block : List ℕ) × (block_at plan guid n ≡ Some block)
    × ((i : ℕ) → i < 64 → 1 ≤ 64 * n + i → 64 * n + i ≤ top
    → slice_get block i ≡ Some (entry_of next guid (64 * n + i)))

-- a plan with the LIDs `given` and, for each usable switch, its blocks of the next tables by the rule
abbrev pub step_plan : Given → Cells → StepRuleValue → HeldPlan → HeldPlan → PlanValue
step_plan given cells rule held goal =
    record { given = given; tables = map (next_table cells rule held goal) (switches cells) }

-- the plan of a step has whole blocks: for each usable switch, those of the next tables, up to the switch's next top
pub record HasNextBlocks (given : Given) (cells : Cells) (rule : StepRuleValue) (held goal : HeldPlan) : Type 0 where
  pub whole : HasWholeBlocks (step_plan given cells rule held goal)
  pub blocks : (guid n : ℕ) → Contains (switches cells) guid → 64 * n ≤ next_top held goal guid
      → HasNextBlock (step_plan given cells rule held goal) (next_tables cells rule held goal)
      (next_top held goal guid) guid n

-- by each rule of steps, the plan of a step has the blocks of the next tables
abbrev pub StepPlansHaveNextBlocks : Type 0
StepPlansHaveNextBlocks =
    (given : Given) (cells : Cells) (rule : StepRuleValue) (held goal : HeldPlan)
    → HasNextBlocks given cells rule held goal
