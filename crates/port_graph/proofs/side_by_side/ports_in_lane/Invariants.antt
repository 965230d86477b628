use Rattle.port_graph.specs.ByteLanes.{at, port_in}
use Rattle.port_graph.proofs.Rows.{IsMapped}
use Rattle.port_graph.proofs.side_by_side.ports_in_lane.Given as goal

-- the ports so far, with those of the vertices that are left
abbrev pub invariant-loop-vertex : goal.invariant-loop-vertex
invariant-loop-vertex l = IsMapped (λ a. port_in (at l.numbers a l.lane) (at l.ports a l.lane)) l.vertices l.found.items l.vertex-index
