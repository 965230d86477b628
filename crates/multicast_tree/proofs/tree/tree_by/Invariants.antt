use Rattle.std.proofs.Common.{◌≡◌, take}
use Rattle.std.specs.Prelude.{map}
use Rattle.fact_store.specs.View.{cells_of}
use Rattle.multicast_tree.specs.Tree.{parent_in, tree_at}
use Rattle.multicast_tree.proofs.tree.tree_by.Given as goal

-- the switches so far
abbrev pub invariant-loop-guid : goal.invariant-loop-guid
invariant-loop-guid l = l.tree.items ≡ map (tree_at (cells_of l.wires) (parent_in l.guids l.parents)) (take l.guid-index l.guids)
