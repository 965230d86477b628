use Rattle.std.proofs.Common.{◌≡◌, ◌++◌}
use Rattle.fact_store.specs.View.{cells_of}
use Rattle.std.specs.List.{filter_map}
use Rattle.fact_store.specs.Iter.{cells_left}
use Rattle.plan_steps.specs.StateSteps.{wired_port, wired_ports}
use Rattle.plan_steps.proofs.state_steps.wired_ports.Given as goal

-- what was found, and what the rest has, are all that there is
abbrev pub invariant-loop-sighting : goal.invariant-loop-sighting
invariant-loop-sighting l = l.ports.items ++ filter_map (wired_port (cells_of l.store)) (cells_left l.sighting-iterator) ≡ wired_ports (cells_of l.store)
