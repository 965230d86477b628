use Rattle.std.proofs.Common.{◌≡◌, drop}
use Rattle.std.specs.Prelude.{◌||◌}
use Rattle.spread_labels.specs.Labels.{leads_up}
use Rattle.spread_labels.specs.MarkSets.{picked}
use Rattle.spread_labels.specs.TargetSet.{EachTarget, has}
use Rattle.trial_loads.proofs.upward.upward_from.Given as goal

-- the targets so far and those of the edges that are left make up all
abbrev pub invariant-loop-j : goal.invariant-loop-j
invariant-loop-j l = EachTarget (λ k. (has l.ups k || leads_up l.position (picked k (drop l.j l.sets) (drop l.j l.edges)))
    ≡ leads_up l.position (picked k l.sets l.edges))
