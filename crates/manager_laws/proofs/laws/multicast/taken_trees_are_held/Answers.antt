use Rattle.manager_laws.proofs.TreeTaken.{taken_trees_are_held}
use Rattle.manager_laws.proofs.laws.multicast.taken_trees_are_held.Goals as goal

pub returns : goal.returns
returns c = taken_trees_are_held
