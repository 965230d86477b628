use Rattle.std.proofs.Common.{map}
use Rattle.spread_labels.specs.MarkSets.{AreSetsAfter}
use Rattle.spread_labels.proofs.candidate_sets.rows_towards.Given as goal

-- the sets after so many rounds
abbrev pub invariant-loop-round : goal.invariant-loop-round
invariant-loop-round l =
    AreSetsAfter l.edges l.targets l.round l.marks.marked.items l.marks.downs.items (map (λ row. row.items) l.rows.items)
