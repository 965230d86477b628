use Rattle.std.proofs.Common.{◌≡◌, ◌<◌, ◌≤◌, ◌&&◌, ◌||◌, ℕ}
use Rattle.spread_labels.specs.TargetSet.{EachTarget, has}
use Rattle.spread_labels.specs.MarkSets.{edge_at, giver_set, set_at}
use Rattle.spread_labels.proofs.mark_sets.note.Given as goal

-- what was noted so far, and what is as it was
abbrev pub invariant-loop-i : goal.invariant-loop-i
invariant-loop-i l =
    record {
      done : EachTarget (λ k. (j : ℕ) → j < l.i → has (set_at l.row j) k
          ≡ (has (set_at l.fn.row j) k || (has (giver_set l.vertex l.marks.marked.items l.marks.downs.items (edge_at l.edges j)) k && has l.new k)));
      left : (j : ℕ) → l.i ≤ j → set_at l.row j ≡ set_at l.fn.row j;
    }
