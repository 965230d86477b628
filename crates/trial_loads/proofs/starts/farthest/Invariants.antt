use Rattle.std.proofs.Common.{◌≡◌, ◌<◌, length}
use Rattle.std.specs.Prelude.{MatchOption}
use Rattle.spread_labels.specs.Growth.{earliest_of}
use Rattle.spread_labels.specs.KeyOrder.{before_by}
use Rattle.spread_labels.specs.Orders.{numbers_from}
use Rattle.trial_loads.specs.Starts.{starts_before}
use Rattle.trial_loads.proofs.starts.farthest.Given as goal

-- the one of the vertices so far that starts before the others
abbrev pub invariant-loop-vertex : goal.invariant-loop-vertex
invariant-loop-vertex l =
    (l.found ≡ earliest_of (starts_before l.near (before_by l.keys)) (numbers_from 0 l.vertex))
    × MatchOption l.found (Unit {0}) (λ other. other < length l.keys)
