use Rattle.multicast_tree.proofs.Forests.{up_then_down}
use Rattle.multicast_tree.proofs.laws.copies_go_up_then_down.Goals as goal

pub returns : goal.returns
returns c = up_then_down
