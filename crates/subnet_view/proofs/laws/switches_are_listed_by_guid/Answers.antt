use Rattle.subnet_view.proofs.UsableSwitches.{switches_law}
use Rattle.subnet_view.proofs.laws.switches_are_listed_by_guid.Goals as goal

pub returns : goal.returns
returns c = switches_law
