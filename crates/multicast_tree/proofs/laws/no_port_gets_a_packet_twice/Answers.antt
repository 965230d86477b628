use Rattle.multicast_tree.proofs.Trees.{no_port_twice}
use Rattle.multicast_tree.proofs.laws.no_port_gets_a_packet_twice.Goals as goal

pub returns : goal.returns
returns c = no_port_twice
