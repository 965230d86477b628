use Rattle.std.proofs.Common.{◌≡◌, map, take}
use Rattle.packet_walks.specs.Edges.{edge_of}
use Rattle.packet_walks.proofs.hops_by_tables.edges.Given as goal

-- those of the switches so far
abbrev pub invariant-loop-node : goal.invariant-loop-node
invariant-loop-node l = l.edges.items ≡ map (edge_of l.rows l.lid) (take l.node-index l.nodes)
