-- Those that are entered so far.
use Rattle.next_tables.proofs.Ordered.{EnteredSoFar}
use Rattle.next_tables.proofs.ordered_entries.entered.Given as goal

abbrev pub invariant-loop-index : goal.invariant-loop-index
invariant-loop-index l = EnteredSoFar l.positions l.held l.goal l.entered.items l.index
