use Rattle.std.proofs.Common.{◌≡◌, ◌*◌, replicate}
use Rattle.balanced_choices.proofs.loads.no_loads.Given as goal

-- those of the positions so far
abbrev pub invariant-loop : goal.invariant-loop
invariant-loop l = l.loads.items ≡ replicate (256 * l.counter) 0
