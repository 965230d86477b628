use Rattle.std.proofs.Common.{◌≡◌, ◌≤◌, length}
use Rattle.depth_orders.specs.KeyedGraph.{preferred}
use Rattle.depth_orders.specs.DepthOrder.{deepest, flag_at}
use Rattle.depth_orders.proofs.depth_order.deepest.Given as goal

-- the vertices behind have no neighbor left
abbrev pub invariant-loop-behind : goal.invariant-loop-behind
invariant-loop-behind l =
    (l.behind ≤ length l.vertices)
    × (deepest l.graph.edges.now (preferred l.graph) (flag_at l.placed) l.vertices (length l.vertices)
    ≡ deepest l.graph.edges.now (preferred l.graph) (flag_at l.placed) l.vertices l.behind)

abbrev pub decreases-loop-behind : goal.decreases-loop-behind
decreases-loop-behind l = l.behind
