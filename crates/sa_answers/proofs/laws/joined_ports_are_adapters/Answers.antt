-- The port was found among those of the plan.
use Rattle.sa_answers.proofs.Members.{joined_are_adapters}
use Rattle.sa_answers.proofs.laws.joined_ports_are_adapters.Goals as goal

pub returns : goal.returns
returns c = joined_are_adapters
