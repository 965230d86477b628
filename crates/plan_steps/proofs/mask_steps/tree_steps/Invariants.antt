use Rattle.std.proofs.Common.{◌≡◌, ◌++◌, drop}
use Rattle.fact_store.specs.View.{cells_of}
use Rattle.plan_steps.specs.MaskSteps.{tree_steps}
use Rattle.plan_steps.proofs.mask_steps.tree_steps.Given as goal

-- the steps so far, and those of the switches that are left, are all that there are
abbrev pub invariant-loop-switch : goal.invariant-loop-switch
invariant-loop-switch l =
    l.steps.items ++ tree_steps (cells_of l.store) l.sweep (drop l.switch-index l.tree) ≡ tree_steps (cells_of l.store) l.sweep l.tree
