use Rattle.multicast_tree.proofs.InWords.{parent_law}
use Rattle.multicast_tree.proofs.laws.parents_are_in_words.Goals as goal

pub returns : goal.returns
returns c = parent_law
