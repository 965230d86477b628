-- The end ports so far.
use Rattle.std.proofs.Common.{◌≡◌, map, take}
use Rattle.fact_store.specs.View.{cells_of}
use Rattle.subnet_view.specs.EndPort.{end_ports}
use Rattle.lane_channels.specs.LaneNetwork.{lists_of}
use Rattle.lane_channels.specs.Levels.{lids_held}
use Rattle.lane_channels.proofs.held_by.held_by.Given as goal

abbrev pub invariant-loop-source : goal.invariant-loop-source
invariant-loop-source l =
    lists_of l.held_by.items ≡ map (lids_held l.network.held) (take l.source-index (end_ports (cells_of l.network.facts)))
