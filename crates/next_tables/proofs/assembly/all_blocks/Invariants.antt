-- The blocks so far.
use Rattle.std.proofs.Common.{◌≡◌, map, take}
use Rattle.next_tables.specs.Assembly.{all_blocks}
use Rattle.next_tables.proofs.assembly.all_blocks.Given as goal

abbrev pub invariant-loop-index : goal.invariant-loop-index
invariant-loop-index l = l.blocks.items ≡ all_blocks (map (λ c. c.items) l.columns) 0 (take l.index l.switches)
