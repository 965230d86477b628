use Rattle.held_order.proofs.StandStill.{goal_stands_still}
use Rattle.held_order.proofs.laws.between.goal_stands_still.Goals as goal

pub returns : goal.returns
returns c = record { law = goal_stands_still }
