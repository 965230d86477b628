use Rattle.std.proofs.Common.{◌≡◌, map, take}
use Rattle.std.specs.Prelude.{slice_index}
use Rattle.spread_labels.proofs.vertex_positions.counts_at.Given as goal

-- the counts of the vertices so far
abbrev pub invariant-loop-vertex : goal.invariant-loop-vertex
invariant-loop-vertex l = l.found.items ≡ map (λ v. slice_index l.counts v) (take l.vertex-index l.vertices)
