use Rattle.updown_routes.proofs.PositionLists.{AreAtPositionsTo}
use Rattle.updown_routes.proofs.up_down_edges.UpDownEdges.of.Given as goal

-- the wires of the switches at the positions so far
abbrev pub invariant-loop-position : goal.invariant-loop-position
invariant-loop-position l = AreAtPositionsTo l.graph l.order l.position l.ups l.downs
