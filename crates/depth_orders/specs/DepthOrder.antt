-- Orders by depth. The last placed vertex that has an unplaced neighbor decides: one of its unplaced neighbors is
-- placed next.
use Rattle.std.specs.Prelude.{ℕ, zero, suc, Bool, false, not, ◌&&◌, ◌||◌, ◌==◌, nat_lt}
use Rattle.std.specs.Prelude.{List, [], ◌∷◌, ◌++◌, filter, length, count_by, Option, None, Some, slice_index_or}
use Rattle.std.specs.List.{list_any}
use Rattle.port_graph.specs.declared.edge.Edge.{Edge}
use Rattle.port_graph.specs.Heads.{edges_at, heads}
use Rattle.spread_labels.specs.Orders.{at_position, numbers_from}
use Rattle.spread_labels.specs.Growth.{earliest_of, first_of}
use Rattle.depth_orders.specs.declared.direction.Direction.{Direction}
use Rattle.depth_orders.specs.declared.direction.Direction.TheVariants.{Forwards, Backwards}

-- the test `before`, or its reverse if the direction is backwards
abbrev pub turned : Direction → (ℕ → ℕ → Bool) → ℕ → ℕ → Bool
turned Forwards before a b = before a b
turned Backwards before a b = before b a

-- whether vertex `s` is in `vertices`
abbrev pub is_among : List ℕ → ℕ → Bool
is_among vertices s = list_any (λ p. p == s) vertices

-- the flag of vertex `s`; false if `s` is past the end
abbrev pub flag_at : List Bool → ℕ → Bool
flag_at flags s = slice_index_or flags s false

-- the number of edges of vertex `s` that lead to placed vertices
abbrev pub edges_to : List (List Edge) → (ℕ → Bool) → ℕ → ℕ
edges_to edges placed s = count_by (λ e. placed e.to) (edges_at edges s)

-- whether vertex `a` goes before vertex `b`: more edges of `a` lead to placed vertices, or equally many do and `before`
-- puts `a` first
abbrev pub goes_before : List (List Edge) → (ℕ → ℕ → Bool) → (ℕ → Bool) → ℕ → ℕ → Bool
goes_before edges before placed a b = nat_lt (edges_to edges placed b) (edges_to edges placed a)
    || ((edges_to edges placed a == edges_to edges placed b) && before a b)

-- the first, by `goes_before`, of the unplaced neighbors of vertex `s`; None if `s` has no unplaced neighbor
abbrev pub best_beside : List (List Edge) → (ℕ → ℕ → Bool) → (ℕ → Bool) → ℕ → Option ℕ
best_beside edges before placed s =
    earliest_of (goes_before edges before placed) (filter (λ b. not (placed b)) (heads edges s))

-- the vertex that is placed next, decided by the first vertices of `vertices`, as many as the given number. Of these,
-- the last that has an unplaced neighbor decides: its first unplaced neighbor by `goes_before` is placed next. None if
-- none of them has an unplaced neighbor
abbrev pub deepest : List (List Edge) → (ℕ → ℕ → Bool) → (ℕ → Bool) → List ℕ → ℕ → Option ℕ
deepest edges before placed vertices zero = None
deepest edges before placed vertices (suc i) =
    first_of (best_beside edges before placed (at_position vertices i)) (deepest edges before placed vertices i)

-- the first, by `before`, of the unplaced ones among the vertices less than `n`; None if all are placed
abbrev pub first_left : (ℕ → ℕ → Bool) → (ℕ → Bool) → ℕ → Option ℕ
first_left before placed n = earliest_of before (filter (λ b. not (placed b)) (numbers_from 0 n))

-- the vertex that is placed after `vertices`, if `placed` says which vertices are placed. It is the vertex that
-- `deepest` gives. If no vertex of `vertices` has an unplaced neighbor, it is the first unplaced vertex by `before`;
-- None if all are placed
abbrev pub next_by_depth : List (List Edge) → (ℕ → ℕ → Bool) → (ℕ → Bool) → List ℕ → Option ℕ
next_by_depth edges before placed vertices =
    first_of (deepest edges before placed vertices (length vertices)) (first_left before placed (length edges))

-- `vertices`, with the next one appended if there is one
abbrev pub with_next : List ℕ → Option ℕ → List ℕ
with_next vertices None = vertices
with_next vertices (Some s) = vertices ++ s ∷ []

-- the order by depth from `root`, cut off: `root`, and then as many further vertices as the given number, or all that
-- are left if they are fewer
abbrev pub depth_after : List (List Edge) → (ℕ → ℕ → Bool) → ℕ → ℕ → List ℕ
depth_after edges before root zero = root ∷ []
depth_after edges before root (suc n) =
    with_next (depth_after edges before root n)
    (next_by_depth edges before (is_among (depth_after edges before root n)) (depth_after edges before root n))

-- the order by depth of all vertices, from `root`
abbrev pub order_by_depth : List (List Edge) → (ℕ → ℕ → Bool) → ℕ → List ℕ
order_by_depth edges before root = depth_after edges before root (length edges)
