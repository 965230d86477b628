-- The owner has the port.
use Rattle.sa_answers.proofs.Records.{ports_told}
use Rattle.sa_answers.proofs.laws.ports_are_told.Goals as goal

pub returns : goal.returns
returns c = ports_told
