use Rattle.held_order.proofs.Agreement.{goals_go_further}
use Rattle.held_order.proofs.laws.between.goals_go_further.Goals as goal

pub returns : goal.returns
returns c = record { law = goals_go_further }
