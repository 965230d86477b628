use Rattle.held_tables.specs.Blocks.{AreBlank}
use Rattle.held_tables.proofs.blocks.no_blocks.Given as goal

-- the rows so far
abbrev pub invariant-loop-row : goal.invariant-loop-row
invariant-loop-row l = AreBlank l._row l.rows.items
