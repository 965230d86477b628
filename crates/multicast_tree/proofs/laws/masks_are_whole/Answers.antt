use Rattle.multicast_tree.proofs.Masks.{masks_are_whole}
use Rattle.multicast_tree.proofs.laws.masks_are_whole.Goals as goal

pub returns : goal.returns
returns c = masks_are_whole
