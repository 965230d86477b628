use Rattle.held_order.proofs.Stages.{handed_steps_end}
use Rattle.held_order.proofs.laws.between.handed_steps_end.Goals as goal

pub returns : goal.returns
returns c = record { law = handed_steps_end }
