use Rattle.sm_state.proofs.Moves.{nothing_else_moves}
use Rattle.sm_state.proofs.laws.nothing_else_moves.Goals as goal

pub returns : goal.returns
returns c = nothing_else_moves
