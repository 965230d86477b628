-- The senders so far.
use Rattle.std.proofs.Common.{◌≡◌, map, take}
use Rattle.fact_store.specs.View.{cells_of}
use Rattle.subnet_view.specs.EndPort.{end_ports}
use Rattle.lane_channels.specs.Stops.{first_stop}
use Rattle.lane_channels.proofs.stop.first_stops.Given as goal

abbrev pub invariant-loop-source : goal.invariant-loop-source
invariant-loop-source l = l.firsts.items ≡ map (first_stop (cells_of l.network.facts)) (take l.source-index (end_ports (cells_of l.network.facts)))
