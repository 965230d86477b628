use Rattle.multicast_tree.proofs.Trees.{none_to_the_sender}
use Rattle.multicast_tree.proofs.laws.the_sender_gets_no_copy.Goals as goal

pub returns : goal.returns
returns c = none_to_the_sender
