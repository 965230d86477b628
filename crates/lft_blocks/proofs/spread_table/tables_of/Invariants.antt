use Rattle.std.proofs.Common.{◌≡◌, ◌≤◌, ℕ, [], map, length, get_or}
use Rattle.std.specs.List.{range_with_len}
use Rattle.lft_blocks.specs.TableRow.{table_of_row}
use Rattle.lft_blocks.proofs.spread_table.tables_of.Given as goal

-- the tables so far, and the rows that are left
abbrev pub invariant-loop-own : goal.invariant-loop-own
invariant-loop-own l = (l.tables.items ≡ map (table_of_row l.guids l.fn.rows l.count) (range_with_len 0 l.own))
    × (length l.rows ≡ length l.fn.rows)
    × ((k : ℕ) → l.own ≤ k → get_or l.rows k [] ≡ get_or l.fn.rows k [])
