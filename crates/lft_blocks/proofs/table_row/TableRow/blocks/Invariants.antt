use Rattle.std.proofs.Common.{◌≡◌}
use Rattle.lft_blocks.specs.TableRow.{blocks_of_row}
use Rattle.lft_blocks.proofs.table_row.TableRow.blocks.Given as goal

-- the blocks so far
abbrev pub invariant-loop-b : goal.invariant-loop-b
invariant-loop-b l = l.blocks.items ≡ blocks_of_row l.self l.b
