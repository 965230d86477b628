use Rattle.std.proofs.Common.{length}
use Rattle.fact_store.specs.View.{cells_of}
use Rattle.subnet_view.specs.Graph.{edge_at, edges_of}
use Rattle.subnet_view.specs.SwitchGraph.{LeadBelow}
use Rattle.subnet_view.proofs.EdgeLists.{AreAll}
use Rattle.subnet_view.proofs.switch_graph.edges_of.Given as goal

-- what was found, and what the ports to come have, are all that there is
abbrev pub invariant-loop-before : goal.invariant-loop-before
invariant-loop-before l = AreAll l.guids (edge_at (cells_of l.wires) l.guid) (edges_of (cells_of l.wires) l.guid) l.before-end l.found.items l.before
    × LeadBelow (length l.guids) l.found.items
