use Rattle.law_examples.proofs.Stages.{some_steps_are_handed}
use Rattle.law_examples.proofs.laws.some_steps_are_handed.Goals as goal

pub returns : goal.returns
returns c = record { law = some_steps_are_handed }
