-- The ports so far.
use Rattle.std.proofs.Common.{◌≡◌, map}
use Rattle.std.specs.List.{range_with_len}
use Rattle.fact_store.specs.View.{cells_of}
use Rattle.lane_channels.specs.FarPorts.{far_port_by}
use Rattle.lane_channels.proofs.far_ports.far_ports.Given as goal

abbrev pub invariant-loop-number : goal.invariant-loop-number
invariant-loop-number l = l.ports.items ≡ map (far_port_by (cells_of l.network.facts)) (range_with_len 0 l.number)
