use Rattle.packet_walks.proofs.Further.{AreGoing}
use Rattle.packet_walks.proofs.ends_by_switch.ends.Given as goal

abbrev pub invariant-loop-left : goal.invariant-loop-left
invariant-loop-left l = AreGoing l.fn.steps.items l.jumps.items l.left

abbrev pub decreases-loop-left : goal.decreases-loop-left
decreases-loop-left l = l.left
