use Rattle.std.proofs.Common.{◌≡◌, ◌-◌, get_or, length, map}
use Rattle.std.specs.Prelude.{None, slice_index}
use Rattle.spread_labels.specs.Level.{greatest}
use Rattle.balanced_choices.specs.EdgesTaken.{way_by}
use Rattle.balanced_choices.specs.Ways.{way}
use Rattle.balanced_choices.proofs.ways.peak_from.Given as goal

-- what is left of the way does the rest
abbrev pub invariant-loop : goal.invariant-loop
invariant-loop l =
    greatest l.peak (map (λ c. slice_index l.loads c) (way (λ p. get_or l.taken p None) (length l.taken - l.counter) l.position))
    ≡ greatest l.found (map (λ c. slice_index l.loads c) (way_by l.taken l.from))
