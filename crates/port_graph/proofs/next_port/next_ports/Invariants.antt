use Rattle.port_graph.proofs.NextPorts.{AreFirstPorts}
use Rattle.port_graph.proofs.next_port.next_ports.Given as goal

-- the next ports of the vertices so far
abbrev pub invariant-loop-vertex : goal.invariant-loop-vertex
invariant-loop-vertex l = AreFirstPorts l.ups l.downs l.target l.vertex l.ports.items
