-- The vertices so far.
use Rattle.std.specs.Prelude.{◌≡◌, map}
use Rattle.std.specs.List.{range_with_len}
use Rattle.two_orders.specs.Trees.{tree_edges}
use Rattle.two_orders.proofs.trees.tree_by.Given as goal

abbrev pub invariant-loop-vertex : goal.invariant-loop-vertex
invariant-loop-vertex l = l.found ≡ map (tree_edges l.edges l.earliest) (range_with_len 0 l.vertex)
