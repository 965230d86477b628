use Rattle.std.proofs.Common.{◌≡◌, ◌&&◌, ◌||◌, drop}
use Rattle.std.specs.Prelude.{nat_lt}
use Rattle.std.specs.List.{list_any}
use Rattle.spread_labels.specs.TargetSet.{EachTarget, has}
use Rattle.spread_labels.specs.MarkSets.{giver_set}
use Rattle.spread_labels.proofs.mark_sets.given_by.Given as goal

-- what was found, and what the edges that are left give
abbrev pub invariant-loop-edge : goal.invariant-loop-edge
invariant-loop-edge l =
    record {
      targets : EachTarget (λ k. (has l.targets k ||
          list_any (λ e. has (giver_set l.vertex l.marks.marked.items l.marks.downs.items e) k) (drop l.edge-index l.edges))
          ≡ list_any (λ e. has (giver_set l.vertex l.marks.marked.items l.marks.downs.items e) k) l.edges);
      ups : EachTarget (λ k. (has l.ups k ||
          list_any (λ e. has (giver_set l.vertex l.marks.marked.items l.marks.downs.items e) k && nat_lt e.to l.vertex) (drop l.edge-index l.edges))
          ≡ list_any (λ e. has (giver_set l.vertex l.marks.marked.items l.marks.downs.items e) k && nat_lt e.to l.vertex) l.edges);
    }
