use Rattle.std.proofs.Common.{length}
use Rattle.tables_file.proofs.Folds.{HasJudged}
use Rattle.tables_file.proofs.reading.first_fault.Given as goal

abbrev pub invariant-loop-line : goal.invariant-loop-line
invariant-loop-line l = HasJudged l.text l.rest l.last_lines l.number

abbrev pub decreases-loop-line : goal.decreases-loop-line
decreases-loop-line l = length l.rest
