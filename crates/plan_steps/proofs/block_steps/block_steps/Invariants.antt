use Rattle.std.proofs.Common.{◌≡◌, ◌++◌, drop}
use Rattle.std.specs.List.{flat_map}
use Rattle.lft_blocks.specs.Plan.{switches_of}
use Rattle.plan_steps.specs.BlockSteps.{switch_steps, block_steps}
use Rattle.plan_steps.proofs.block_steps.block_steps.Given as goal

-- the steps so far, and those of the switches that are left, are all that there are
abbrev pub invariant-loop-guid : goal.invariant-loop-guid
invariant-loop-guid l = l.steps.items ++ flat_map (switch_steps l.sweep l.plan) (drop l.guid-index (switches_of l.plan)) ≡ block_steps l.sweep l.plan
