use Rattle.held_order.proofs.GoalTurns.{goal_turns_well}
use Rattle.held_order.proofs.laws.between.goal_turns_well.Goals as goal

pub returns : goal.returns
returns c = record { law = goal_turns_well }
