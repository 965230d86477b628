-- The blocks so far.
use Rattle.std.proofs.Common.{◌≡◌, ◌++◌, map}
use Rattle.next_tables.specs.Assembly.{some_blocks}
use Rattle.next_tables.proofs.assembly.add_blocks.Given as goal

abbrev pub invariant-loop-number : goal.invariant-loop-number
invariant-loop-number l = l.blocks.items ≡ l.fn.blocks.items ++ some_blocks (map (λ c. c.items) l.columns) l.index l.number
