-- A number of the range is marked, or none is.
use Rattle.std.proofs.Common.{sym, arith}
use Rattle.lid_assign.specs.LidMarks.{from_on}
use Rattle.lid_assign.proofs.Marking.{marked_at, none_marked}
use Rattle.lid_assign.proofs.lid_marks.any_marked.Goals as goal

pub returns-then-marks-n : goal.returns-then-marks-n
returns-then-marks-n c = sym (marked_at c.args.marks.now (from_on c.args.width c.args.first) c.loop-n.n (omega arith) (omega arith) c.if-marks-n.true)

pub returns : goal.returns
returns c = sym (none_marked c.args.marks.now (from_on c.args.width c.args.first) (λ n low high. c.loop-n.invariant n low (omega (arith, low, high))))
