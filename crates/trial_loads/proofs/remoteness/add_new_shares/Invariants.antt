use Rattle.std.proofs.Common.{◌≡◌, ◌<◌, ◌≤◌, ◌+◌, ℕ}
use Rattle.std.specs.Prelude.{slice_index}
use Rattle.trial_loads.specs.NearTargets.{new_shares}
use Rattle.trial_loads.specs.Starts.{capped}
use Rattle.trial_loads.proofs.remoteness.add_new_shares.Given as goal

-- the sums so far, and those that are as they were
abbrev pub invariant-loop-vertex : goal.invariant-loop-vertex
invariant-loop-vertex l = record {
  done : (s : ℕ) → s < l.vertex
      → slice_index l.sums s ≡ capped (slice_index l.fn.sums s + new_shares l.shares (slice_index l.near s) (slice_index l.next s));
  left : (s : ℕ) → l.vertex ≤ s → slice_index l.sums s ≡ slice_index l.fn.sums s;
}
