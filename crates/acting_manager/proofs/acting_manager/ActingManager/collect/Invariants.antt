use Rattle.std.proofs.Common.{◌≡◌, length}
use Rattle.acting_manager.specs.Acting.{collected, value_of}
use Rattle.acting_manager.proofs.acting_manager.ActingManager.collect.Given as goal

-- what is queued yet is what is left to be given out
abbrev pub invariant-loop-out : goal.invariant-loop-out
invariant-loop-out l = collected (value_of l.self) ≡ collected (value_of l.initial.self)

abbrev pub decreases-loop-out : goal.decreases-loop-out
decreases-loop-out l = length l.self.manager.outgoing
