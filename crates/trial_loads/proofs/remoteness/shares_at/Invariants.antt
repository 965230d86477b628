use Rattle.std.proofs.Common.{◌≡◌, take}
use Rattle.trial_loads.specs.NearTargets.{shares_at}
use Rattle.trial_loads.proofs.remoteness.shares_at.Given as goal

-- the shares of the targets so far
abbrev pub invariant-loop-target : goal.invariant-loop-target
invariant-loop-target l = l.shares.items ≡ shares_at l.adapters (take l.target-index l.targets) l.distance
