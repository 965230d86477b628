use Rattle.std.proofs.Common.{◌≡◌, drop}
use Rattle.balanced_choices.specs.BalancedChoices.{sum_from}
use Rattle.balanced_choices.proofs.evenness.sum.Given as goal

-- the numbers that are left do the rest
abbrev pub invariant-loop-number : goal.invariant-loop-number
invariant-loop-number l = sum_from l.sum (drop l.number-index l.numbers) ≡ sum_from 0 l.numbers
