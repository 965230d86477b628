use Rattle.std.proofs.Common.{◌≡◌, ◌≤◌, ℕ, map}
use Rattle.spread_labels.specs.MarkSets.{AreSetSteps, sets_at}
use Rattle.spread_labels.proofs.mark_sets.after_round.Given as goal

-- the sets of the vertices so far, and rows that are as they were
abbrev pub invariant-loop-vertex : goal.invariant-loop-vertex
invariant-loop-vertex l =
    record {
      done : AreSetSteps l.edges l.marks.marked.items l.marks.downs.items (map (λ row. row.items) l.fn.rows) l.vertex l.marked.items l.downs.items
          (map (λ row. row.items) l.rows);
      left : (s : ℕ) → l.vertex ≤ s → sets_at (map (λ row. row.items) l.rows) s ≡ sets_at (map (λ row. row.items) l.fn.rows) s;
    }
