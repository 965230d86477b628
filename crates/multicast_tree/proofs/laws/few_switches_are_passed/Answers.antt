use Rattle.multicast_tree.proofs.Forests.{few_switches_passed}
use Rattle.multicast_tree.proofs.laws.few_switches_are_passed.Goals as goal

pub returns : goal.returns
returns c = few_switches_passed
