use Rattle.sm_state.proofs.Moves.{others_are_told}
use Rattle.sm_state.proofs.laws.others_are_told.Goals as goal

pub returns : goal.returns
returns c = others_are_told
