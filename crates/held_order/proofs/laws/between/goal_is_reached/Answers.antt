use Rattle.held_order.proofs.GoalReached.{goal_is_reached}
use Rattle.held_order.proofs.laws.between.goal_is_reached.Goals as goal

pub returns : goal.returns
returns c = record { law = goal_is_reached }
