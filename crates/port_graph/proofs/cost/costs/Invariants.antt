use Rattle.std.proofs.Common.{length}
use Rattle.port_graph.specs.NextPorts.{AreCosts}
use Rattle.port_graph.proofs.CostSteps.{AreBounded}
use Rattle.port_graph.proofs.cost.costs.Given as goal

-- the costs of the vertices so far, which don't grow large
abbrev pub invariant-loop-vertex : goal.invariant-loop-vertex
invariant-loop-vertex l = AreCosts l.ups l.distances l.vertex l.costs.items × AreBounded (length l.ups) l.costs.items
