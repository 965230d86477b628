-- The channels so far.
use Rattle.audit_ways.proofs.Walked.{AreTaken}
use Rattle.audit_ways.proofs.channel_loads.load_channels.Given as goal

abbrev pub invariant-loop-taken : goal.invariant-loop-taken
invariant-loop-taken l = AreTaken l.edges l.fn.loads l.first l.times l.taken l.switch l.loads
