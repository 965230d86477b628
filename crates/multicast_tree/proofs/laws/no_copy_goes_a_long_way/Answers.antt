use Rattle.multicast_tree.proofs.Trees.{no_long_way}
use Rattle.multicast_tree.proofs.laws.no_copy_goes_a_long_way.Goals as goal

pub returns : goal.returns
returns c = no_long_way
