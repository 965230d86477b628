-- The owner has the port.
use Rattle.sa_answers.proofs.Records.{ports_of_plan}
use Rattle.sa_answers.proofs.laws.ports_told_are_the_plans.Goals as goal

pub returns : goal.returns
returns c = ports_of_plan
