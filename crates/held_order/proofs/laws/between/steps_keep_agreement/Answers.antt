use Rattle.held_order.proofs.Agreement.{steps_keep_agreement}
use Rattle.held_order.proofs.laws.between.steps_keep_agreement.Goals as goal

pub returns : goal.returns
returns c = record { law = steps_keep_agreement }
