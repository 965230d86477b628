use Rattle.std.proofs.Common.{◌≡◌, map, take}
use Rattle.spread_labels.specs.MarkSets.{no_sets}
use Rattle.spread_labels.proofs.candidate_sets.no_rows.Given as goal

-- the rows of the vertices so far
abbrev pub invariant-loop-vertex : goal.invariant-loop-vertex
invariant-loop-vertex l = map (λ row. row.items) l.rows.items ≡ map no_sets (take l.vertex l.edges)
