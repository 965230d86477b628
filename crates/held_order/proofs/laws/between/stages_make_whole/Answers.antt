use Rattle.held_order.proofs.Stages.{stages_make_whole}
use Rattle.held_order.proofs.laws.between.stages_make_whole.Goals as goal

pub returns : goal.returns
returns c = record { law = stages_make_whole }
