use Rattle.std.proofs.Common.{length}
use Rattle.schedule_file.proofs.FirstFault.{HasJudged}
use Rattle.schedule_file.proofs.first_fault.first_fault.Given as goal

abbrev pub invariant-loop-line : goal.invariant-loop-line
invariant-loop-line l = HasJudged l.topology.nodes l.text l.rest l.known l.number

abbrev pub decreases-loop-line : goal.decreases-loop-line
decreases-loop-line l = length l.rest
