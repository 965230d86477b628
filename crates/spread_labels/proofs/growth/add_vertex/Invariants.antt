use Rattle.std.specs.Prelude.{◌≡◌, drop, length}
use Rattle.spread_labels.specs.Growth.{beside_all, after_add_vertex}
use Rattle.spread_labels.proofs.growth.add_vertex.Given as goal

-- the edges that are left do the rest
abbrev pub invariant-loop-edge : goal.invariant-loop-edge
invariant-loop-edge l =
    (length l.stages ≡ length l.fn.stages) × (after_add_vertex l.vertex l.edges l.fn.stages ≡ beside_all l.stages (drop l.edge-index l.edges))
