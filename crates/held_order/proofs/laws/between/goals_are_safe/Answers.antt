use Rattle.held_order.proofs.Safe.{goals_are_safe}
use Rattle.held_order.proofs.laws.between.goals_are_safe.Goals as goal

pub returns : goal.returns
returns c = record { law = goals_are_safe }
