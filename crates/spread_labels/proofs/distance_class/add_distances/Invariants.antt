use Rattle.std.proofs.Common.{◌≡◌, ◌<◌, ◌≤◌, ℕ, length, get_or}
use Rattle.std.specs.Prelude.{None}
use Rattle.spread_labels.specs.DistanceClass.{with_distance, no_distances}
use Rattle.spread_labels.proofs.distance_class.add_distances.Given as goal

-- those so far have a distance more, and the others are as they were
abbrev pub invariant-loop-i : goal.invariant-loop-i
invariant-loop-i l = (length l.distance_sums ≡ length l.fn.distance_sums)
    × ((k : ℕ) → k < l.i → get_or l.distance_sums k no_distances ≡ with_distance (get_or l.fn.distance_sums k no_distances) (get_or l.distances k None))
    × ((k : ℕ) → l.i ≤ k → get_or l.distance_sums k no_distances ≡ get_or l.fn.distance_sums k no_distances)
