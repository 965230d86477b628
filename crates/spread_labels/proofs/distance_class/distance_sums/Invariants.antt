use Rattle.std.proofs.Common.{◌≡◌, ◌<◌, ℕ, length, drop, All}
use Rattle.std.specs.Prelude.{slice_index_or}
use Rattle.spread_labels.specs.DistanceClass.{IsDistanceSumOf, distance_sum, with_distances, no_distances}
use Rattle.spread_labels.proofs.distance_class.distance_sums.Given as goal

-- with the distances from those that are left these are the distance sums
abbrev pub invariant-loop-from : goal.invariant-loop-from
invariant-loop-from l = (length l.distance_sums.items ≡ length l.edges)
    × ((s : ℕ) → s < length l.edges → with_distances l.edges s (slice_index_or l.distance_sums.items s no_distances) (drop l.from-index l.some)
    ≡ distance_sum l.edges l.some s)
    × All (IsDistanceSumOf l.from-index) l.distance_sums.items
