use Rattle.std.proofs.Common.{◌≡◌, ◌++◌, drop}
use Rattle.std.specs.List.{filter_map}
use Rattle.lft_blocks.specs.Plan.{switches_of}
use Rattle.plan_steps.specs.BlockSteps.{top_step}
use Rattle.plan_steps.proofs.block_steps.steps_with_top.Given as goal

-- the steps so far, and those of the switches that are left, are all that there are
abbrev pub invariant-loop-guid : goal.invariant-loop-guid
invariant-loop-guid l =
    l.steps.items ++ filter_map (top_step l.sweep l.top) (drop l.guid-index (switches_of l.plan))
    ≡ filter_map (top_step l.sweep l.top) (switches_of l.plan)
