-- The ways from the switches so far.
use Rattle.audit_ways.proofs.Added.{AddedSoFar}
use Rattle.audit_ways.proofs.way_tally.WayTally.add.Given as goal

abbrev pub invariant-loop-first : goal.invariant-loop-first
invariant-loop-first l = AddedSoFar l.edges l.fn.self l.weights l.first l.self
