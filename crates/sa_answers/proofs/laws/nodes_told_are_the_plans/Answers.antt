-- The end port is found, and counted.
use Rattle.sa_answers.proofs.Records.{nodes_of_plan}
use Rattle.sa_answers.proofs.laws.nodes_told_are_the_plans.Goals as goal

pub returns : goal.returns
returns c = nodes_of_plan
