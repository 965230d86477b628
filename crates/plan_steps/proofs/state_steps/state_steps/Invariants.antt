use Rattle.std.proofs.Common.{◌≡◌, ◌++◌, drop}
use Rattle.fact_store.specs.View.{cells_of}
use Rattle.std.specs.List.{filter_map}
use Rattle.plan_steps.specs.StateSteps.{state_step}
use Rattle.plan_steps.proofs.state_steps.state_steps.Given as goal

-- the steps so far, and those of the ports that are left, are all that there are
abbrev pub invariant-loop-at : goal.invariant-loop-at
invariant-loop-at l =
    l.steps.items ++ filter_map (state_step (cells_of l.store) l.sweep l.lids l.master l.state) (drop l.at-index l.ports)
    ≡ filter_map (state_step (cells_of l.store) l.sweep l.lids l.master l.state) l.ports
