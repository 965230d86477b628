use Rattle.std.proofs.Common.{◌≡◌, map, take}
use Rattle.fact_store.specs.View.{cells_of}
use Rattle.subnet_view.specs.Reading.{switches}
use Rattle.held_tables.specs.Switches.{wired_of}
use Rattle.held_tables.proofs.wired_switch.wired_switches.Given as goal

-- the switches so far
abbrev pub invariant-loop-guid : goal.invariant-loop-guid
invariant-loop-guid l = l.wired.items ≡ map (wired_of (cells_of l.subnet)) (take l.guid-index (switches (cells_of l.subnet)))
