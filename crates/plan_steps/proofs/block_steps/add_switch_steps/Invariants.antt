use Rattle.std.proofs.Common.{◌≡◌, ◌++◌}
use Rattle.std.specs.List.{filter_map, range_with_len}
use Rattle.plan_steps.specs.BlockSteps.{block_step}
use Rattle.plan_steps.proofs.block_steps.add_switch_steps.Given as goal

-- the steps of the blocks so far were added
abbrev pub invariant-loop-b : goal.invariant-loop-b
invariant-loop-b l = l.steps.items ≡ l.initial.steps.items ++ filter_map (block_step l.sweep l.plan l.guid) (range_with_len 0 l.b)
