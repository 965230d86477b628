use Rattle.std.proofs.Common.{◌≡◌, drop}
use Rattle.std.specs.Prelude.{slice_index}
use Rattle.port_graph.specs.ByteLanes.{EachLane, at, nearest_from, nearest_by}
use Rattle.port_graph.proofs.byte_lanes.nearest.Given as goal

-- what is nearest over the edges that are left, from what was found, is nearest of all
abbrev pub invariant-loop-edge : goal.invariant-loop-edge
invariant-loop-edge l = EachLane (λ k.
    nearest_from (λ a. at l.numbers a k) (slice_index l.nearest.numbers k, slice_index l.nearest.ports k) (drop l.edge-index l.edges)
    ≡ nearest_by (λ a. at l.numbers a k) l.edges)
