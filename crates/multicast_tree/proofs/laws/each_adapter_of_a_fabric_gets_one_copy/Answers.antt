use Rattle.multicast_tree.proofs.FabricAdapters.{each_gets_one_copy_in_fabric}
use Rattle.multicast_tree.proofs.laws.each_adapter_of_a_fabric_gets_one_copy.Goals as goal

pub returns : goal.returns
returns c = each_gets_one_copy_in_fabric
