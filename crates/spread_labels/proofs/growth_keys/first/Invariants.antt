use Rattle.std.proofs.Common.{◌≡◌, ◌<◌, length}
use Rattle.std.specs.Prelude.{MatchOption, filter, is_some, slice_index_or, None}
use Rattle.spread_labels.specs.KeyOrder.{before_by}
use Rattle.spread_labels.specs.Orders.{numbers_from}
use Rattle.spread_labels.specs.Growth.{earliest_of}
use Rattle.spread_labels.proofs.growth_keys.first.Given as goal

-- the earliest of the vertices so far that have a distance, which is a vertex
abbrev pub invariant-loop-vertex : goal.invariant-loop-vertex
invariant-loop-vertex l =
    (l.found ≡ earliest_of (before_by l.keys) (filter (λ a. is_some (slice_index_or l.distances a None)) (numbers_from 0 l.vertex)))
    × MatchOption l.found (Unit {0}) (λ other. other < length l.keys)
