-- The end port is found, and counted.
use Rattle.sa_answers.proofs.Records.{nodes_told}
use Rattle.sa_answers.proofs.laws.nodes_are_told.Goals as goal

pub returns : goal.returns
returns c = nodes_told
