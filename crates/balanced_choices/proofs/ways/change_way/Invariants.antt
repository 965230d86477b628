use Rattle.std.proofs.Common.{◌≡◌, ◌-◌, length, get_or}
use Rattle.std.specs.Prelude.{None}
use Rattle.balanced_choices.specs.EdgesTaken.{way_by}
use Rattle.balanced_choices.specs.Ways.{way, with_changes}
use Rattle.balanced_choices.proofs.ways.change_way.Given as goal

-- what is left of the way does the rest
abbrev pub invariant-loop : goal.invariant-loop
invariant-loop l =
    with_changes l.change l.loads (way (λ p. get_or l.taken p None) (length l.taken - l.counter) l.position)
    ≡ with_changes l.change l.fn.loads (way_by l.taken l.from)
