use Rattle.multicast_tree.proofs.InWords.{tree_law}
use Rattle.multicast_tree.proofs.laws.the_tree_is_in_words.Goals as goal

pub returns : goal.returns
returns c = tree_law
