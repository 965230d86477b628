-- The leaf numbers of switches. Leaf switches with the same least neighbor have consecutive numbers, so that their LIDs
-- spread over the wires of that neighbor.
use Rattle.std.specs.Prelude.{ℕ, ◌%◌, ◌^◌, Bool, ◌&&◌, ◌||◌, List, [], ◌∷◌, ◌==◌, filter, length, map, min, nat_lt, slice_index}
use Rattle.port_graph.specs.declared.edge.Edge.{Edge}
use Rattle.spread_labels.specs.Leaves.{leaf_vertices}
use Rattle.spread_labels.specs.Orders.{numbers_from}
use Rattle.subnet_view.specs.SwitchEdges.{SwitchEdges}
use Rattle.spread_routes.specs.Rule.{by_index}

-- the least of `n` and the numbers of a list
abbrev pub least : ℕ → List ℕ → ℕ
least n [] = n
least n (m ∷ ms) = least (min n m) ms

-- the least of `n` and the vertices to which `edges` lead
abbrev pub least_head : ℕ → List Edge → ℕ
least_head n edges = least n (map (λ e. e.to) edges)

-- the least neighbor of each vertex; the number of vertices for a vertex that has no edges
abbrev pub least_neighbors : List (List Edge) → List ℕ
least_neighbors edges = map (least_head (length edges)) edges

-- whether vertex `a` comes before vertex `b` among leaf vertices: its least neighbor is less, or the least neighbors
-- are equal and `a` is less
abbrev pub goes_first : List ℕ → ℕ → ℕ → Bool
goes_first neighbors a b =
    nat_lt (slice_index neighbors a) (slice_index neighbors b)
    || (slice_index neighbors a == slice_index neighbors b && nat_lt a b)

-- the leaf number of vertex `s`: the number of leaf vertices that come before it (`goes_first`), modulo 2^16
abbrev pub leaf_number : List ℕ → List ℕ → ℕ → ℕ
leaf_number neighbors leaves s = length (filter (λ leaf. goes_first neighbors leaf s) leaves) % 2 ^ 16

-- the leaf number of each switch, in ascending order of the switches' GUIDs; `adapters` has the number of adapters at
-- each switch
abbrev pub leaf_numbers : List SwitchEdges → List ℕ → List ℕ
leaf_numbers graph adapters =
    map (leaf_number (least_neighbors (by_index graph)) (leaf_vertices adapters)) (numbers_from 0 (length graph))
