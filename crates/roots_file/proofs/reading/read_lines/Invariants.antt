use Rattle.std.proofs.Common.{length}
use Rattle.roots_file.proofs.Folds.{HasRead}
use Rattle.roots_file.proofs.reading.read_lines.Given as goal

abbrev pub invariant-loop-line : goal.invariant-loop-line
invariant-loop-line l = HasRead l.text l.rest l.roots l.number

abbrev pub decreases-loop-line : goal.decreases-loop-line
decreases-loop-line l = length l.rest
