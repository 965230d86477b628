use Rattle.held_order.proofs.Stages.{stages_are_few}
use Rattle.held_order.proofs.laws.between.stages_are_few.Goals as goal

pub returns : goal.returns
returns c = record { law = stages_are_few }
