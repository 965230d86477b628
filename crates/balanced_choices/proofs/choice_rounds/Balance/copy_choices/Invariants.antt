use Rattle.std.proofs.Common.{◌≡◌, map, take}
use Rattle.balanced_choices.proofs.choice_rounds.Balance.copy_choices.Given as goal

-- copies of the choices so far
abbrev pub invariant-loop-own : goal.invariant-loop-own
invariant-loop-own l = map (λ own. own.items) l.choices.items ≡ take l.own-index (map (λ own. own.items) l.own-items)
