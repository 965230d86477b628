use Rattle.std.proofs.Common.{◌≡◌, ◌<◌, ◌≤◌, ◌-◌, ℕ, length, take}
use Rattle.std.specs.Prelude.{slice_index}
use Rattle.std.specs.List.{sum_by}
use Rattle.trial_loads.specs.NearTargets.{share_within}
use Rattle.trial_loads.specs.Starts.{capped}
use Rattle.trial_loads.proofs.remoteness.all_remoteness.Given as goal

-- the sums of the shares of the vertices so far
abbrev pub invariant-loop-first : goal.invariant-loop-first
invariant-loop-first l = record {
  first : l.first ≤ l.vertices.len;
  long : l.sums.len ≡ length l.graph.edges.now;
  sums : (s : ℕ) → s < length l.graph.edges.now
      → slice_index l.sums.items s ≡ capped (sum_by (share_within l.graph.edges.now l.graph.adapters.now (length l.graph.edges.now) s) (take l.first l.vertices.items));
}

abbrev pub decreases-loop-first : goal.decreases-loop-first
decreases-loop-first l = l.vertices.len - l.first
