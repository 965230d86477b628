use Rattle.std.proofs.Common.{◌≡◌, map, replicate, take}
use Rattle.balanced_choices.specs.BalancedChoices.{ends_of}
use Rattle.balanced_choices.proofs.choice_rounds.no_choices.Given as goal

-- those of the destinations so far
abbrev pub invariant-loop-destination : goal.invariant-loop-destination
invariant-loop-destination l =
    map (λ own. own.items) l.choices.items ≡ replicate (ends_of 0 (take l.destination-index l.destinations)) (replicate l.positions 0)
