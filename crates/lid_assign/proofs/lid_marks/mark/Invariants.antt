use Rattle.std.proofs.Common.{◌-◌}
use Rattle.std.specs.Prelude.{Some}
use Rattle.lid_assign.specs.LidMarks.{from_on, AreMarkedMore}
use Rattle.lid_assign.proofs.lid_marks.mark.Given as goal

-- the numbers so far are marked
abbrev pub invariant-loop-n : goal.invariant-loop-n
invariant-loop-n l = AreMarkedMore (Some (from_on (l.n - l.first) l.first)) l.fn.marks l.marks
