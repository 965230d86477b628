use Rattle.multicast_tree.proofs.ChannelTurns.{one_without_parent}
use Rattle.multicast_tree.proofs.laws.one_switch_has_no_parent.Goals as goal

pub returns : goal.returns
returns c = one_without_parent
