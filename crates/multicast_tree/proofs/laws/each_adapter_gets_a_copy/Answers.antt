use Rattle.multicast_tree.proofs.Whole.{each_gets_a_copy}
use Rattle.multicast_tree.proofs.laws.each_adapter_gets_a_copy.Goals as goal

pub returns : goal.returns
returns c = each_gets_a_copy
