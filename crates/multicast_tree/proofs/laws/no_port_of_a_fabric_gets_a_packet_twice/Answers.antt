use Rattle.multicast_tree.proofs.FabricAdapters.{no_port_twice_in_fabric}
use Rattle.multicast_tree.proofs.laws.no_port_of_a_fabric_gets_a_packet_twice.Goals as goal

pub returns : goal.returns
returns c = no_port_twice_in_fabric
