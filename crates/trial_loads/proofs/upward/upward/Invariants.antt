use Rattle.std.proofs.Common.{◌≡◌, ◌<◌, ℕ, length}
use Rattle.spread_labels.specs.MarkSets.{set_at}
use Rattle.spread_labels.specs.TargetSet.{EachTarget, has}
use Rattle.trial_loads.specs.TrialLoads.{candidates_in, goes_up}
use Rattle.trial_loads.proofs.upward.upward.Given as goal

-- those of the positions so far
abbrev pub invariant-loop-position : goal.invariant-loop-position
invariant-loop-position l =
    (length l.ups.items ≡ l.position)
    × EachTarget (λ k. (s : ℕ) → s < l.position → has (set_at l.ups.items s) k ≡ goes_up (candidates_in l.graph l.sets k) s)
