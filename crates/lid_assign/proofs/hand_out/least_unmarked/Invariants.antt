use Rattle.std.proofs.Common.{◌≡◌, ◌≤◌, ◌+◌, ◌-◌, ◌%◌, length}
use Rattle.lid_assign.specs.LidMarks.{NoneUnmarked}
use Rattle.lid_assign.proofs.hand_out.least_unmarked.Given as goal

-- a multiple of the width, and none before it is open
abbrev pub invariant-loop-next : goal.invariant-loop-next
invariant-loop-next l =
    (l.initial.next ≤ l.next) × (l.next % l.width ≡ 0) × (l.next ≤ length l.marks + l.width) × NoneUnmarked l.marks l.width l.initial.next l.next

abbrev pub decreases-loop-next : goal.decreases-loop-next
decreases-loop-next l = length l.marks - l.next
