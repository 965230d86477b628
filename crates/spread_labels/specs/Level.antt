-- The levels of vertices, their distances from leaf vertices, and the digit weight of each level.
use Rattle.std.specs.Prelude.{ℕ, zero, suc, Bool, List, [], ◌∷◌, map, filter, length, ◌==◌, nat_lt, ◌*◌, min, max, unwrap_or, slice_index}
use Rattle.port_graph.specs.declared.edge.Edge.{Edge}
use Rattle.port_graph.specs.Heads.{edges_at}
use Rattle.spread_labels.specs.DistanceClass.{distance_sum}
use Rattle.spread_labels.specs.Orders.{numbers_from}

-- the level of vertex `s`: its distance from the nearest leaf vertex; 0 if no leaf vertex can be reached
abbrev pub level_of : List (List Edge) → List ℕ → ℕ → ℕ
level_of edges leaves s = unwrap_or (distance_sum edges leaves s).near 0

-- the level of each vertex
abbrev pub levels_of : List (List Edge) → List ℕ → List ℕ
levels_of edges leaves = map (level_of edges leaves) (numbers_from 0 (length edges))

-- whether edge `e` of vertex `s` leads to a vertex of a higher level
abbrev pub is_rise : List ℕ → ℕ → Edge → Bool
is_rise levels s e = nat_lt (slice_index levels s) (slice_index levels e.to)

-- the number of edges of vertex `s` that lead to vertices of higher levels
abbrev pub rises_at : List (List Edge) → List ℕ → ℕ → ℕ
rises_at edges levels s = length (filter (is_rise levels s) (edges_at edges s))

-- the greatest of `n` and the numbers of a list
abbrev pub greatest : ℕ → List ℕ → ℕ
greatest n [] = n
greatest n (m ∷ ms) = greatest (max n m) ms

-- the width of level `h`: the greatest number of edges to vertices of higher levels that any vertex of level `h` has,
-- but at least 1
abbrev pub width_of : List (List Edge) → List ℕ → ℕ → ℕ
width_of edges levels h =
    greatest 1 (map (rises_at edges levels) (filter (λ s. slice_index levels s == h) (numbers_from 0 (length edges))))

-- the digit weight of a level: the product of the widths of the lower levels, but at most 65536. No number of a LID is
-- as great as that
abbrev pub digit_weight_of : List (List Edge) → List ℕ → ℕ → ℕ
digit_weight_of edges levels zero = 1
digit_weight_of edges levels (suc h) = min (digit_weight_of edges levels h * width_of edges levels h) 65536

-- for each vertex, the digit weight of its level
abbrev pub digit_weights_of : List (List Edge) → List ℕ → List ℕ
digit_weights_of edges levels = map (λ h. digit_weight_of edges levels h) levels
