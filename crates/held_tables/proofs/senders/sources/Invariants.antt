use Rattle.std.proofs.Common.{◌≡◌, map, take}
use Rattle.fact_store.specs.View.{cells_of}
use Rattle.subnet_view.specs.EndPort.{end_ports}
use Rattle.held_tables.specs.Switches.{sender_of}
use Rattle.held_tables.proofs.senders.sources.Given as goal

-- the end ports so far
abbrev pub invariant-loop-port : goal.invariant-loop-port
invariant-loop-port l = l.sources.items ≡ map (sender_of (cells_of l.subnet)) (take l.port-index (end_ports (cells_of l.subnet)))
