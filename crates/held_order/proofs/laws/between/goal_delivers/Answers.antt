use Rattle.held_order.proofs.GoalDelivers.{goal_delivers}
use Rattle.held_order.proofs.laws.between.goal_delivers.Goals as goal

pub returns : goal.returns
returns c = record { law = goal_delivers }
