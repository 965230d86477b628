use Rattle.std.proofs.Common.{◌≡◌, ◌++◌}
use Rattle.std.specs.List.{filter_map, range_with_len}
use Rattle.plan_steps.specs.MaskSteps.{mask_step}
use Rattle.plan_steps.proofs.mask_steps.add_mask_steps.Given as goal

-- the steps of the positions so far were added
abbrev pub invariant-loop-position : goal.invariant-loop-position
invariant-loop-position l =
    l.steps.items ≡ l.initial.steps.items ++ filter_map (mask_step l.sweep l.guid l.ports) (range_with_len 0 l.position)
