use Rattle.held_order.proofs.GoalReaches.{goal_reaches_all}
use Rattle.held_order.proofs.laws.between.goal_reaches_all.Goals as goal

pub returns : goal.returns
returns c = record { law = goal_reaches_all }
