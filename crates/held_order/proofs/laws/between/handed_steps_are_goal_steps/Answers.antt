use Rattle.held_order.proofs.HandedSteps.{handed_steps_are_goal_steps}
use Rattle.held_order.proofs.laws.between.handed_steps_are_goal_steps.Goals as goal

pub returns : goal.returns
returns c = record { law = handed_steps_are_goal_steps }
