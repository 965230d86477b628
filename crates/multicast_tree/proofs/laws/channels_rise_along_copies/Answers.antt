use Rattle.multicast_tree.proofs.ChannelTurns.{copy_turns_rise}
use Rattle.multicast_tree.proofs.laws.channels_rise_along_copies.Goals as goal

pub returns : goal.returns
returns c = copy_turns_rise
