use Rattle.subnet_view.proofs.GraphSwitches.{switch_law}
use Rattle.subnet_view.proofs.laws.switches_are_the_usable_ones.Goals as goal

pub returns : goal.returns
returns c = switch_law
