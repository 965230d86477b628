use Rattle.sm_state.proofs.Moves.{handovers_are_taken}
use Rattle.sm_state.proofs.laws.handovers_are_taken.Goals as goal

pub returns : goal.returns
returns c = handovers_are_taken
