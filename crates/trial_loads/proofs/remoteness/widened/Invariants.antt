use Rattle.std.proofs.Common.{◌≡◌, take}
use Rattle.trial_loads.proofs.remoteness.widened.Given as goal

-- the sums so far
abbrev pub invariant-loop-sum : goal.invariant-loop-sum
invariant-loop-sum l = l.wide.items ≡ take l.sum-index l.sums
