use Rattle.held_order.proofs.Agreement.{goals_are_few}
use Rattle.held_order.proofs.laws.between.goals_are_few.Goals as goal

pub returns : goal.returns
returns c = record { law = goals_are_few }
