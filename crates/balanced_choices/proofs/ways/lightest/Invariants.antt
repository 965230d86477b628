use Rattle.std.proofs.Common.{◌≡◌, ◌<◌, drop, map}
use Rattle.balanced_choices.specs.EdgesTaken.{lightest_by, peak_by}
use Rattle.balanced_choices.specs.Ways.{candidates_at, least_from}
use Rattle.balanced_choices.proofs.ways.lightest.Given as goal

-- the candidates that are left do the rest
abbrev pub invariant-loop-k : goal.invariant-loop-k
invariant-loop-k l =
    (l.best < 256)
    × (least_from l.best l.least l.k (map (peak_by l.taken l.loads l.position) (drop l.k (candidates_at l.ways l.position)))
    ≡ lightest_by l.ways l.taken l.loads l.position)
