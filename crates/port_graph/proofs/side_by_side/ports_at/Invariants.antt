use Rattle.std.specs.Prelude.{None, slice_index_or}
use Rattle.port_graph.proofs.Rows.{IsMapped}
use Rattle.port_graph.proofs.side_by_side.ports_at.Given as goal

-- the ports so far, with those of the vertices that are left
abbrev pub invariant-loop-vertex : goal.invariant-loop-vertex
invariant-loop-vertex l = IsMapped (λ a. slice_index_or l.ports a None) l.vertices l.found.items l.vertex-index
