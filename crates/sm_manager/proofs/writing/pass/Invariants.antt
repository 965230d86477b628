-- What is left is passed over as all was to be.
use Rattle.std.proofs.Common.{◌≡◌, length}
use Rattle.sm_manager.specs.Writing.{without_empty_phases}
use Rattle.sm_manager.proofs.writing.pass.Given as goal

abbrev pub invariant-loop-phase : goal.invariant-loop-phase
invariant-loop-phase l = without_empty_phases l.later.items ≡ without_empty_phases l.fn.later.items

abbrev pub decreases-loop-phase : goal.decreases-loop-phase
decreases-loop-phase l = length l.later.items
