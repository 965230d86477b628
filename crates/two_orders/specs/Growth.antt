-- The order that grows by positions, and the positions of vertices in a list.
use Rattle.std.specs.Prelude.{ℕ, List, map, slice_index_or}
use Rattle.std.specs.List.{range_with_len}
use Rattle.port_graph.specs.declared.edge.Edge.{Edge}
use Rattle.spread_labels.specs.declared.key_order.VertexKey.{VertexKey}
use Rattle.spread_labels.specs.KeyOrder.{before_by}
use Rattle.spread_labels.specs.Orders.{order, position_of}

-- the key of a vertex at `position`
abbrev pub key_of : ℕ → VertexKey
key_of position = record { distance_class = 0; distance = position }

-- the vertices in the order that grows by `positions`
abbrev pub grown_by : List (List Edge) → List ℕ → List ℕ
grown_by edges positions = order edges (before_by (map key_of positions))

-- the position in `vertices` of each of `n` vertices; the length of the list for a vertex that it does not have
abbrev pub positions_in : List ℕ → ℕ → List ℕ
positions_in vertices n = map (position_of vertices) (range_with_len 0 n)

-- the number at index `i`; 0 if `i` is past the end
abbrev pub number_at : List ℕ → ℕ → ℕ
number_at numbers i = slice_index_or numbers i 0
