-- The grown order. The next vertex is the earliest of those that have an edge to a placed vertex. If no vertex has such
-- an edge, it is the earliest of all that are left.
use Rattle.std.specs.Prelude.{◌≡◌, ◌≢◌, true, false, ◌<◌, ℕ, zero, suc, Bool, not}
use Rattle.std.specs.Prelude.{◌==◌, List, [], ◌∷◌, map, filter, length, Contains, slice_index_or, if◌then◌else◌}
use Rattle.std.specs.List.{list_any}
use Rattle.port_graph.specs.declared.edge.Edge.{Edge}
use Rattle.port_graph.specs.Walks.{Walk}
use Rattle.port_graph.specs.Heads.{edges_at, heads, LeadToVertices}
use Rattle.spread_labels.specs.LabelLaws.{IsSymmetric, IsGrownGraph}

-- the `n` numbers that start at `k`
abbrev pub numbers_from : ℕ → ℕ → List ℕ
numbers_from k zero = []
numbers_from k (suc n) = k ∷ numbers_from (suc k) n

-- the earliest of `x` and the vertices of a list, by the test `before`. If neither of two comes before the other, the
-- first counts
abbrev pub earliest : (ℕ → ℕ → Bool) → ℕ → List ℕ → ℕ
earliest before x [] = x
earliest before x (y ∷ ys) = earliest before (if before y x then y else x) ys

-- whether an edge of vertex `s` leads to a placed vertex
abbrev pub is_beside : List (List Edge) → List ℕ → ℕ → Bool
is_beside edges placed s = list_any (λ e. list_any (λ p. p == e.to) placed) (edges_at edges s)

-- the earliest vertex of the last list; if this list is empty, the earliest of `x` and `rest`
abbrev pub choose : (ℕ → ℕ → Bool) → ℕ → List ℕ → List ℕ → ℕ
choose before x rest [] = earliest before x rest
choose before x rest (y ∷ ys) = earliest before y ys

-- the vertex among `x` and `rest` that comes next after `placed`: the earliest of those that have an edge to a vertex
-- of `placed`. If none has such an edge, it is the earliest of all
abbrev pub next_placed : List (List Edge) → (ℕ → ℕ → Bool) → List ℕ → ℕ → List ℕ → ℕ
next_placed edges before placed x rest = choose before x rest (filter (is_beside edges placed) (x ∷ rest))

-- `xs` without the vertex `s`
abbrev pub without : ℕ → List ℕ → List ℕ
without s xs = filter (λ x. not (x == s)) xs

-- the grown order of the vertices that are left, after the placed vertices. It has only the first vertices of this
-- order, at most as many as the given number
abbrev pub grown_behind : List (List Edge) → (ℕ → ℕ → Bool) → ℕ → List ℕ → List ℕ → List ℕ
grown_behind edges before zero placed rest = []
grown_behind edges before (suc n) placed [] = []
grown_behind edges before (suc n) placed (x ∷ rest) =
    next_placed edges before placed x rest
    ∷ grown_behind edges before n (next_placed edges before placed x rest
    ∷ placed) (without (next_placed edges before placed x rest) (x ∷ rest))

-- the grown order of all vertices, by the test `before`
abbrev pub order : List (List Edge) → (ℕ → ℕ → Bool) → List ℕ
order edges before = grown_behind edges before (length edges) [] (numbers_from 0 (length edges))

-- the vertex at position `i`; 0 if `i` is past the end
abbrev pub at_position : List ℕ → ℕ → ℕ
at_position vertices i = slice_index_or vertices i 0

-- the position of vertex `s` in a list; the length of the list if it does not have `s`
abbrev pub position_of : List ℕ → ℕ → ℕ
position_of [] s = 0
position_of (x ∷ xs) s = if x == s then 0 else suc (position_of xs s)

-- an edge of vertex `s` leads to a placed vertex
abbrev pub Beside : List (List Edge) → List ℕ → ℕ → Type 0
Beside edges placed s = (e : Edge) × Contains (edges_at edges s) e × Contains placed e.to

-- `vertices` has each vertex once. Each vertex from which a walk leads to an earlier vertex has an edge to an earlier
-- vertex
pub record IsGrownOrder (edges : List (List Edge)) (vertices : List ℕ) : Type 0 where
  pub all : (s : ℕ) → s < length edges → Contains vertices s
  pub vertex : (i : ℕ) → i < length vertices → at_position vertices i < length edges
  pub once : (i j : ℕ) → i < length vertices → j < i → at_position vertices j ≡ at_position vertices i → ⊥
  pub grown : (i j n : ℕ) → i < length vertices → j < i
      → Walk (heads edges) (at_position vertices i) (at_position vertices j) n
      → (e : Edge) × Contains (edges_at edges (at_position vertices i)) e
      × ((k : ℕ) × (k < i) × (at_position vertices k ≡ e.to))

-- the edge `e`, which leads to a vertex, as an edge to that vertex's position in `vertices`
abbrev pub positioned_edge : List ℕ → Edge → Edge
positioned_edge vertices e = record { port = e.port; to = position_of vertices e.to }

-- the graph with its vertices numbered by their positions in `vertices`
abbrev pub by_position : List (List Edge) → List ℕ → List (List Edge)
by_position edges vertices = map (λ s. map (positioned_edge vertices) (edges_at edges s)) vertices

-- the order that grows by `before` is a grown order, and the graph numbered by this order is a grown graph
pub record Grows (edges : List (List Edge)) (before : ℕ → ℕ → Bool) : Type 0 where
  pub is_grown : IsGrownOrder edges (order edges before)
  pub graph : IsGrownGraph (by_position edges (order edges before))

-- if the edges of a graph lead to vertices and go both ways, then for any test, the order that grows by it is a grown
-- order, and the graph numbered by that order is a grown graph (`Grows`)
abbrev pub OrderLaw : Type 0
OrderLaw = (edges : List (List Edge)) (before : ℕ → ℕ → Bool) → LeadToVertices edges → IsSymmetric edges
    → Grows edges before

-- `before` is a strict total order of vertices
pub record AreKeys (before : ℕ → ℕ → Bool) : Type 0 where
  pub not_itself : (a : ℕ) → before a a ≡ false
  pub trans : (a b c : ℕ) → before a b ≡ true → before b c ≡ true → before a c ≡ true
  pub total : (a b : ℕ) → a ≢ b → before a b ≡ false → before b a ≡ true

-- vertex `s` may be placed before vertex `y`. If `y` has an edge to a placed vertex, then `s` has one too, and `y` is
-- not earlier than `s`. If `s` has no edge to a placed vertex, `y` is not earlier than `s`
pub record IsEarlier (edges : List (List Edge)) (before : ℕ → ℕ → Bool) (placed : List ℕ) (s y : ℕ) : Type 0 where
  pub front : Beside edges placed y → Beside edges placed s × (before y s ≡ false)
  pub alone : (Beside edges placed s → ⊥) → before y s ≡ false

-- each vertex of a list may be placed before each later vertex of the list, once `placed` and the vertices before it in
-- the list are placed
abbrev pub AreEarlier : List (List Edge) → (ℕ → ℕ → Bool) → List ℕ → List ℕ → Type 0
AreEarlier edges before placed [] = Unit {0}
AreEarlier edges before placed (s ∷ ss) =
    ((y : ℕ) → Contains ss y → IsEarlier edges before placed s y) × AreEarlier edges before (s ∷ placed) ss

-- if the edges of a graph lead to vertices and `before` is a strict total order, then in the order that grows by
-- `before`, each vertex may be placed before each later vertex (`AreEarlier`)
abbrev pub KeysLaw : Type 0
KeysLaw = (edges : List (List Edge)) (before : ℕ → ℕ → Bool) → LeadToVertices edges → AreKeys before
    → AreEarlier edges before [] (order edges before)
