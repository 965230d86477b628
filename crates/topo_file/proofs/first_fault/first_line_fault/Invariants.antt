use Rattle.std.proofs.Common.{length}
use Rattle.topo_file.proofs.FirstFault.{HasJudged}
use Rattle.topo_file.proofs.first_fault.first_line_fault.Given as goal

abbrev pub invariant-loop-line : goal.invariant-loop-line
invariant-loop-line l = HasJudged l.text l.rest l.names.items l.number

abbrev pub decreases-loop-line : goal.decreases-loop-line
decreases-loop-line l = length l.rest
