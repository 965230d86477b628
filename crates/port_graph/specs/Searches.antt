-- A breadth-first search of vertices.
use Rattle.std.specs.Prelude.{ℕ, List, [], ◌∷◌, ◌++◌, Option, None, Some, is_some, slice_index_or, slice_set, if◌then◌else◌}
use Rattle.port_graph.specs.declared.edge.Edge.{Edge}

-- a breadth-first search: the distances known so far, and a queue. The queue has the vertices whose edges are still to
-- be followed, each with its distance
abbrev pub Search : Type 0
Search = List (Option ℕ) × List (ℕ × ℕ)

-- the search once vertex `a` is reached at `distance`: if `a` had no distance, it gets `distance` and joins the queue
abbrev pub reach : ℕ → Search → ℕ → Search
reach distance s a =
    if is_some (slice_index_or s.0 a None) then s else (slice_set s.0 a (Some distance), s.1 ++ (a, distance) ∷ [])

-- the search once the vertices that the edges lead to are reached at `distance`, one after another
abbrev pub reach_all : ℕ → Search → List Edge → Search
reach_all distance s [] = s
reach_all distance s (e ∷ es) = reach_all distance (reach distance s e.to) es
