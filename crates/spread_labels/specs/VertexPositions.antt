-- The positions of vertices in an order.
use Rattle.std.specs.Prelude.{◌≡◌, ◌<◌, ℕ, List, length, Contains, slice_index}
use Rattle.port_graph.specs.declared.edge.Edge.{Edge}
use Rattle.spread_labels.specs.Orders.{at_position, position_of}

-- each position of `vertices` has a vertex less than `n`, and no vertex is at two positions
pub record StandOnce (n : ℕ) (vertices : List ℕ) : Type 0 where
  pub within : (i : ℕ) → i < length vertices → at_position vertices i < n
  pub once : (i j : ℕ) → i < length vertices → j < i → at_position vertices j ≡ at_position vertices i → ⊥

-- `positions` has an entry for each of `n` vertices: for a vertex of `vertices`, its position there
pub record ArePositions (n : ℕ) (vertices positions : List ℕ) : Type 0 where
  pub all : length positions ≡ n
  pub each : (s : ℕ) → Contains vertices s → slice_index positions s ≡ position_of vertices s

-- the edge `e`, which leads to a vertex, as an edge to the position of that vertex
abbrev pub to_position : List ℕ → Edge → Edge
to_position positions e = record { port = e.port; to = slice_index positions e.to }
