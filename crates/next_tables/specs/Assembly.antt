-- The blocks of switches, from the entries of all switches for each LID.
use Rattle.std.specs.Prelude.{ℕ, suc, ◌+◌, ◌*◌, List, [], ◌∷◌, ◌++◌, Some, map, max, slice_index_or}
use Rattle.std.specs.List.{range_with_len}
use Rattle.subnet_view.specs.Reading.{Cells, switches}
use Rattle.plan_tables.specs.Entries.{block_count}
use Rattle.held_tables.specs.declared.held.HeldBlock.{HeldBlock}
use Rattle.held_tables.specs.declared.held.HeldSwitch.{HeldSwitch}
use Rattle.held_tables.specs.Held.{HeldPlan}
use Rattle.plan_tables.specs.PlanTables.{blocks_from}
use Rattle.packet_walks.specs.Edges.{greatest_top}
use Rattle.next_tables.specs.NextTables.{next_switch}

-- the entry of the switch at `index` for `lid`, if `columns` has the entries of all switches for each LID; 255 if
-- `columns` has no such entry
abbrev pub entry_in : List (List ℕ) → ℕ → ℕ → ℕ
entry_in columns index lid = slice_index_or (slice_index_or columns lid []) index 255

-- block number `b` of the switch at `index`, from `columns`, which has the entries of all switches for each LID
abbrev pub block_in : List (List ℕ) → ℕ → ℕ → List ℕ
block_in columns index b = map (λ i. entry_in columns index (64 * b + i)) (range_with_len 0 64)

-- the first `count` blocks of the switch at `index`, from `columns`, which has the entries of all switches for each LID
abbrev pub some_blocks : List (List ℕ) → ℕ → ℕ → List HeldBlock
some_blocks columns index count = blocks_from index 0 (map (block_in columns index) (range_with_len 0 count))

-- the blocks of `switches`, each up to its top, from `columns`; the first switch has the index `index`
abbrev pub all_blocks : List (List ℕ) → ℕ → List HeldSwitch → List HeldBlock
all_blocks columns index [] = []
all_blocks columns index (s ∷ switches) =
    some_blocks columns index (block_count (Some s.top)) ++ all_blocks columns (suc index) switches

-- the plan's LIDs and, for each usable switch, the switch's entries in `columns` and the greater of its tops in
-- `held` and in `plan`; `columns` has the entries of all usable switches for each LID
abbrev pub tables_with : Cells → HeldPlan → HeldPlan → List (List ℕ) → HeldPlan
tables_with cells held plan columns = record {
  lids = plan.lids;
  switches = map (next_switch held plan) (switches cells);
  blocks = all_blocks columns 0 (map (next_switch held plan) (switches cells));
}

-- the number of blocks up to the greatest top that a usable switch has in `held` or in `plan`
abbrev pub most_blocks : Cells → HeldPlan → HeldPlan → ℕ
most_blocks cells held plan = block_count (Some (max (greatest_top cells held) (greatest_top cells plan)))
