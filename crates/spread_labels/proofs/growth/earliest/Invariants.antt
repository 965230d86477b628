use Rattle.std.specs.Prelude.{◌≡◌, ◌<◌, MatchOption, length}
use Rattle.spread_labels.specs.KeyOrder.{before_by}
use Rattle.spread_labels.specs.Growth.{earliest_at}
use Rattle.spread_labels.proofs.growth.earliest.Given as goal

-- the earliest of the vertices so far, which is one of them
abbrev pub invariant-loop-vertex : goal.invariant-loop-vertex
invariant-loop-vertex l =
    (l.found ≡ earliest_at (before_by l.keys) l.stages l.stage l.vertex) × MatchOption l.found (Unit {0}) (λ other. other < length l.keys)
