-- The blocks so far.
use Rattle.held_tables.proofs.Gathered.{GatheredTo}
use Rattle.std.proofs.Common.{◌-◌, length}
use Rattle.held_tables.proofs.blocks.block_rows.Given as goal

abbrev pub invariant-loop-index : goal.invariant-loop-index
invariant-loop-index l = GatheredTo l.held l.number l.rows.items l.index

abbrev pub decreases-loop-index : goal.decreases-loop-index
decreases-loop-index l = length l.held.blocks - l.index
