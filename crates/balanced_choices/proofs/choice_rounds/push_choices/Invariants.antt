use Rattle.std.proofs.Common.{◌≡◌, ◌++◌, map, replicate}
use Rattle.balanced_choices.proofs.choice_rounds.push_choices.Given as goal

-- those of the ends so far
abbrev pub invariant-loop : goal.invariant-loop
invariant-loop l =
    map (λ own. own.items) l.choices.items ≡ map (λ own. own.items) l.fn.choices.items ++ replicate l.counter (replicate l.positions 0)
