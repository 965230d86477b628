use Rattle.std.proofs.Common.{◌≡◌, [], map, get_or, length}
use Rattle.spread_labels.specs.TargetSet.{EachTarget}
use Rattle.spread_labels.specs.CandidateLists.{added}
use Rattle.spread_labels.proofs.candidate_lists.add.Given as goal

-- what the targets that are left add makes the lists whole
abbrev pub invariant-target : goal.invariant-target
invariant-target l =
    record {
      all : length l.lists ≡ 64;
      each : EachTarget (λ k. added l.left l.port k (get_or (map (λ list. list.items) l.lists) k [])
          ≡ added l.fn.targets l.port k (get_or (map (λ list. list.items) l.fn.lists) k []));
    }

abbrev pub decreases-target : goal.decreases-target
decreases-target l = l.left.bits
