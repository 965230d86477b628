use Rattle.std.proofs.Common.{◌≡◌, ◌<◌, ◌≤◌, ℕ, false}
use Rattle.std.specs.Prelude.{slice_index}
use Rattle.trial_loads.specs.NearTargets.{AreThere, has_target}
use Rattle.trial_loads.proofs.near_targets.at_targets.Given as goal

-- the targets so far, and none of those that are left
abbrev pub invariant-loop-k : goal.invariant-loop-k
invariant-loop-k l = record {
  done : AreThere l.count l.targets l.k l.near.items;
  left : (k s : ℕ) → l.k ≤ k → s < l.count → has_target (slice_index l.near.items s) k ≡ false;
}
