use Rattle.std.proofs.Common.{◌≡◌, ◌<◌, All, length}
use Rattle.spread_labels.specs.KeyOrder.{before_by}
use Rattle.trial_loads.specs.Starts.{near_starts, starts}
use Rattle.trial_loads.proofs.starts.starts.Given as goal

-- the starts so far, and the distances from the nearest of them
abbrev pub invariant-loop-count : goal.invariant-loop-count
invariant-loop-count l =
    record {
      starts : l.starts.items ≡ starts l.edges (before_by l.keys) l.count;
      near : l.near.items ≡ near_starts l.edges l.starts.items;
      vertices : All (λ start. start < length l.edges) l.starts.items;
    }
