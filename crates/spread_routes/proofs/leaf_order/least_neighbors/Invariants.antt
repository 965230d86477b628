use Rattle.std.proofs.Common.{◌≡◌, length, map, take}
use Rattle.spread_routes.specs.LeafNumbers.{least_head}
use Rattle.spread_routes.proofs.leaf_order.least_neighbors.Given as goal

-- the vertices so far
abbrev pub invariant-loop-vertex : goal.invariant-loop-vertex
invariant-loop-vertex l = l.found.items ≡ map (least_head (length l.edges)) (take l.vertex l.edges)
