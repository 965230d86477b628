use Rattle.std.proofs.Common.{◌≡◌, drop}
use Rattle.spread_routes.specs.LeafNumbers.{least_head}
use Rattle.spread_routes.proofs.leaf_order.least_head.Given as goal

-- the edges that are left do the rest
abbrev pub invariant-loop-edge : goal.invariant-loop-edge
invariant-loop-edge l = least_head l.least (drop l.edge-index l.edges) ≡ least_head l.none l.edges
