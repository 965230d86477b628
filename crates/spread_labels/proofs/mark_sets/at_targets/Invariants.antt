use Rattle.std.proofs.Common.{◌≡◌, ◌<◌, ◌≤◌, ℕ, false}
use Rattle.spread_labels.specs.TargetSet.{EachTarget, has}
use Rattle.spread_labels.specs.MarkSets.{AreAtTargets, set_at}
use Rattle.spread_labels.proofs.mark_sets.at_targets.Given as goal

-- the targets so far, and none of those that are left
abbrev pub invariant-loop-k : goal.invariant-loop-k
invariant-loop-k l =
    record {
      done : AreAtTargets l.count l.targets l.k l.sets.items;
      left : EachTarget (λ k. (s : ℕ) → l.k ≤ k → s < l.count → has (set_at l.sets.items s) k ≡ false);
    }
