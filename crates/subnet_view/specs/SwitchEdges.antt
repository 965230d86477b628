-- A switch with its edges, which are its wires to switches.
use Rattle.std.specs.Prelude.{ℕ, List}
use Rattle.port_graph.specs.declared.edge.Edge.{Edge}

-- a usable switch and its wires to usable switches, which may include itself, in ascending order of port
pub record SwitchEdges : Type 0 where
  pub guid : ℕ
  pub edges : List Edge
