use Rattle.held_order.proofs.GoalReached.{goal_ends_right}
use Rattle.held_order.proofs.laws.between.goal_ends_right.Goals as goal

pub returns : goal.returns
returns c = record { law = goal_ends_right }
