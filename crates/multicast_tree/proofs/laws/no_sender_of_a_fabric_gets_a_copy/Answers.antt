use Rattle.multicast_tree.proofs.FabricAdapters.{none_to_the_sender_in_fabric}
use Rattle.multicast_tree.proofs.laws.no_sender_of_a_fabric_gets_a_copy.Goals as goal

pub returns : goal.returns
returns c = none_to_the_sender_in_fabric
