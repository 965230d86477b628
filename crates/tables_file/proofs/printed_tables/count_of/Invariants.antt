use Rattle.std.proofs.Common.{◌≡◌, ◌+◌, drop}
use Rattle.std.specs.List.{prefix_len}
use Rattle.tables_file.specs.PrintedTables.{is_of}
use Rattle.tables_file.proofs.printed_tables.count_of.Given as goal

-- those so far are of the switch
abbrev pub invariant-loop-count : goal.invariant-loop-count
invariant-loop-count l = prefix_len (is_of l.index) l.blocks ≡ l.count + prefix_len (is_of l.index) (drop l.count l.blocks)
