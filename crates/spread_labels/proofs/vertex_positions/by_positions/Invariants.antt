use Rattle.std.proofs.Common.{◌≡◌, map, take}
use Rattle.port_graph.specs.Heads.{edges_at}
use Rattle.spread_labels.specs.Orders.{positioned_edge}
use Rattle.spread_labels.proofs.vertex_positions.by_positions.Given as goal

-- the edges at the positions so far
abbrev pub invariant-loop-vertex : goal.invariant-loop-vertex
invariant-loop-vertex l = l.placed ≡ map (λ s. map (positioned_edge l.vertices) (edges_at l.edges s)) (take l.vertex-index l.vertices)
