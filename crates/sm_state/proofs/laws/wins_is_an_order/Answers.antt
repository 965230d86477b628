use Rattle.sm_state.proofs.Winning.{wins_is_an_order}
use Rattle.sm_state.proofs.laws.wins_is_an_order.Goals as goal

pub returns : goal.returns
returns c = wins_is_an_order
