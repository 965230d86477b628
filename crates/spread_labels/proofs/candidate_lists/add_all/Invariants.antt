use Rattle.std.proofs.Common.{◌≡◌, ◌++◌, [], map, get_or, drop, length}
use Rattle.spread_labels.specs.TargetSet.{EachTarget}
use Rattle.spread_labels.specs.MarkSets.{picked}
use Rattle.spread_labels.proofs.candidate_lists.add_all.Given as goal

-- what the edges that are left add makes the lists whole
abbrev pub invariant-loop-i : goal.invariant-loop-i
invariant-loop-i l =
    record {
      all : length l.lists ≡ 64;
      each : EachTarget (λ k. get_or (map (λ list. list.items) l.lists) k [] ++ map (λ e. e.port) (picked k (drop l.i l.sets) (drop l.i l.edges))
          ≡ get_or (map (λ list. list.items) l.fn.lists) k [] ++ map (λ e. e.port) (picked k l.sets l.edges));
    }
