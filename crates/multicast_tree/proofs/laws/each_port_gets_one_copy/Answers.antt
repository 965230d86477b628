use Rattle.multicast_tree.proofs.Forests.{each_port_once}
use Rattle.multicast_tree.proofs.laws.each_port_gets_one_copy.Goals as goal

pub returns : goal.returns
returns c = each_port_once
