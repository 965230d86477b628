use Rattle.std.proofs.Common.{length}
use Rattle.fact_store.specs.View.{cells_of}
use Rattle.subnet_view.specs.Graph.{edges_of}
use Rattle.subnet_view.proofs.EdgeLists.{AllLeadBelow, AreRows}
use Rattle.subnet_view.proofs.switch_graph.edges.Given as goal

-- the rows so far, and those of the switches to come, are all rows
abbrev pub invariant-loop-guid : goal.invariant-loop-guid
invariant-loop-guid l = AreRows l.guids (edges_of (cells_of l.wires)) l.edges l.guid-index × AllLeadBelow (length l.guids) l.edges
