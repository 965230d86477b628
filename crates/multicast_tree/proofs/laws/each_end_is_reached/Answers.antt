use Rattle.multicast_tree.proofs.Reached.{each_end_reached}
use Rattle.multicast_tree.proofs.laws.each_end_is_reached.Goals as goal

pub returns : goal.returns
returns c = each_end_reached
