use Rattle.multicast_tree.proofs.Trees.{no_up_after_down}
use Rattle.multicast_tree.proofs.laws.no_copy_goes_up_after_down.Goals as goal

pub returns : goal.returns
returns c = no_up_after_down
