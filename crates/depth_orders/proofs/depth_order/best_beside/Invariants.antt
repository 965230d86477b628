use Rattle.std.proofs.Common.{◌≡◌, ◌<◌, length, map, take}
use Rattle.std.specs.Prelude.{MatchOption, filter, not}
use Rattle.depth_orders.specs.KeyedGraph.{preferred}
use Rattle.spread_labels.specs.Growth.{earliest_of}
use Rattle.depth_orders.specs.DepthOrder.{flag_at, goes_before}
use Rattle.depth_orders.proofs.depth_order.best_beside.Given as goal

-- the first of the neighbors so far, which is a vertex
abbrev pub invariant-loop-edge : goal.invariant-loop-edge
invariant-loop-edge l =
    (l.found ≡ earliest_of (goes_before l.graph.edges.now (preferred l.graph) (flag_at l.placed))
    (filter (λ b. not (flag_at l.placed b)) (map (λ e. e.to) (take l.edge-index l.edge-items))))
    × MatchOption l.found (Unit {0}) (λ other. other < length l.graph.edges.now)
