use Rattle.std.proofs.Common.{◌≡◌, ◌++◌, drop}
use Rattle.std.specs.List.{filter_map}
use Rattle.fact_store.specs.View.{cells_of}
use Rattle.lid_assign.specs.Lids.{rising_lids}
use Rattle.plan_steps.specs.LidSteps.{owner_step, lid_steps}
use Rattle.plan_steps.proofs.lid_steps.lid_steps.Given as goal

-- the steps so far, and those of the LIDs that are left, are all that there are
abbrev pub invariant-loop-lid : goal.invariant-loop-lid
invariant-loop-lid l =
    l.steps.items ++ filter_map (owner_step (cells_of l.store) l.sweep l.master l.lids) (drop l.lid-index (rising_lids l.lids))
    ≡ lid_steps (cells_of l.store) l.sweep l.master l.lids
