use Rattle.std.proofs.Common.{◌≡◌, ◌++◌, replicate, take}
use Rattle.balanced_choices.specs.Loads.{repeated}
use Rattle.balanced_choices.proofs.first_choice_loads.repeat.Given as goal

-- the copies of the numbers so far
abbrev pub invariant-loop-number : goal.invariant-loop-number
invariant-loop-number l = l.copies.items ≡ repeated l.count (take l.number-index l.list)

-- and those of this number so far
abbrev pub invariant-loop : goal.invariant-loop
invariant-loop l = l.copies.items ≡ repeated l.count (take l.number-index l.list) ++ replicate l.counter l.number
