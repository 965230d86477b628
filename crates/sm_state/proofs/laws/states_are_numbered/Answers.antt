use Rattle.sm_state.proofs.Moves.{states_are_numbered}
use Rattle.sm_state.proofs.laws.states_are_numbered.Goals as goal

pub returns : goal.returns
returns c = states_are_numbered
