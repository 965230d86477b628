use Rattle.spread_labels.specs.MarkSets.{AreSame}
use Rattle.spread_labels.proofs.mark_sets.are_same.Given as goal

-- the vertices so far have the same
abbrev pub invariant-loop-vertex : goal.invariant-loop-vertex
invariant-loop-vertex l = AreSame l.old.marked.items l.new.marked.items l.vertex
