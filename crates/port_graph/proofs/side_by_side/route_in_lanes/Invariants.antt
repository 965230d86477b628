use Rattle.std.proofs.Common.{◌≡◌, ◌≤◌, length}
use Rattle.std.specs.Prelude.{slice_index}
use Rattle.port_graph.specs.ByteLanes.{EachLane}
use Rattle.port_graph.proofs.ByteLaneRoutes.{AreDownFrom, AreRoutedBelow}
use Rattle.port_graph.proofs.side_by_side.route_in_lanes.Given as goal

-- the down distances of the vertices from the last on
abbrev pub invariant-down : goal.invariant-down
invariant-down l =
    record {
      within : l.vertex ≤ length l.ups;
      numbers : length l.numbers ≡ length l.ups;
      ports : length l.ports ≡ length l.ups;
      down : EachLane (λ k. AreDownFrom l.ups l.downs (slice_index l.targets k) k l.vertex l.numbers l.ports);
    }

abbrev pub decreases-down : goal.decreases-down
decreases-down l = l.vertex

-- the costs of the vertices so far
abbrev pub invariant-up : goal.invariant-up
invariant-up l =
    record {
      numbers : length l.numbers ≡ length l.ups;
      ports : length l.ports ≡ length l.ups;
      routed : EachLane (λ k. AreRoutedBelow l.ups l.downs (slice_index l.targets k) k l.vertex l.numbers l.ports);
    }
