use Rattle.sm_state.proofs.Moves.{masters_stay}
use Rattle.sm_state.proofs.laws.masters_stay.Goals as goal

pub returns : goal.returns
returns c = masters_stay
