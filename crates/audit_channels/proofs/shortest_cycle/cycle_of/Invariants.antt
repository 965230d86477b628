use Rattle.audit_channels.proofs.Searches.{SoFar}
use Rattle.audit_channels.proofs.shortest_cycle.cycle_of.Given as goal

abbrev pub invariant-loop-index : goal.invariant-loop-index
invariant-loop-index l = SoFar l.waits l.numbers l.first l.least l.index l.reached.items l.marks
