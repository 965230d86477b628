-- The tree of an order: the edges between each vertex and the earliest of itself and its neighbors.
use Rattle.std.specs.Prelude.{ℕ, ◌==◌, ◌||◌, Bool, List, filter, length, map, nat_lt}
use Rattle.std.specs.List.{range_with_len}
use Rattle.port_graph.specs.declared.edge.Edge.{Edge}
use Rattle.port_graph.specs.Heads.{edges_at, heads}
use Rattle.spread_labels.specs.Orders.{earliest}
use Rattle.two_orders.specs.Growth.{number_at}

-- whether vertex `a` has an earlier position than vertex `b`
abbrev pub is_earlier : List ℕ → ℕ → ℕ → Bool
is_earlier positions a b = nat_lt (number_at positions a) (number_at positions b)

-- the earliest among vertex `v` and its neighbors, which are the vertices that its edges lead to
abbrev pub earliest_beside : List (List Edge) → List ℕ → ℕ → ℕ
earliest_beside edges positions v = earliest (is_earlier positions) v (heads edges v)

-- for each vertex, the earliest of itself and its neighbors
abbrev pub all_earliest : List (List Edge) → List ℕ → List ℕ
all_earliest edges positions = map (earliest_beside edges positions) (range_with_len 0 (length edges))

-- whether edge `e` of vertex `v` is in the tree. It is if `e` leads to the earliest among `v` and its neighbors, or to
-- a vertex for which `v` is the earliest among that vertex and its neighbors
abbrev pub is_in_tree : List ℕ → ℕ → Edge → Bool
is_in_tree earliests v e = (number_at earliests v == e.to) || (number_at earliests e.to == v)

-- the edges of vertex `v` that are in the tree, given the earliest for each vertex
abbrev pub tree_edges : List (List Edge) → List ℕ → ℕ → List Edge
tree_edges edges earliests v = filter (is_in_tree earliests v) (edges_at edges v)

-- the edges of each vertex that are in the tree, given the earliest for each vertex
abbrev pub tree_by : List (List Edge) → List ℕ → List (List Edge)
tree_by edges earliests = map (tree_edges edges earliests) (range_with_len 0 (length edges))

-- the tree of the order with these positions: the edges that join each vertex to the earliest among itself and its
-- neighbors. Each edge is listed at both vertices
unfoldable pub tree : List (List Edge) → List ℕ → List (List Edge)
tree edges positions = tree_by edges (all_earliest edges positions)
