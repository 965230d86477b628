use Rattle.std.proofs.Common.{◌≡◌, ◌≤◌, take}
use Rattle.std.specs.Prelude.{count_by}
use Rattle.spread_labels.specs.TargetSet.{has}
use Rattle.trial_loads.proofs.shared_loads.count_having.Given as goal

-- the sets so far
abbrev pub invariant-loop-set : goal.invariant-loop-set
invariant-loop-set l = (l.count ≡ count_by (λ set. has set l.target) (take l.set-index l.sets)) × (l.count ≤ l.set-index)
