-- The vertices to which edges lead, and their distances.
use Rattle.std.specs.Prelude.{◌≡◌, ◌<◌, ℕ, List, [], map, length, Contains, Option, None, MatchOption, slice_index_or}
use Rattle.port_graph.specs.declared.edge.Edge.{Edge}
use Rattle.port_graph.specs.Walks.{shortest, IsShortest, HasNoWalk}

-- the edges of vertex `a`; none if `a` is not a vertex
abbrev pub edges_at : List (List Edge) → ℕ → List Edge
edges_at edges a = slice_index_or edges a []

-- the vertices that the edges of vertex `a` lead to, once for each edge
abbrev pub heads : List (List Edge) → ℕ → List ℕ
heads edges a = map (λ e. e.to) (edges_at edges a)

-- each edge leads to a vertex of the graph
abbrev pub LeadToVertices : List (List Edge) → Type 0
LeadToVertices edges = (a : ℕ) (e : Edge) → Contains (edges_at edges a) e → e.to < length edges

-- `distances` has, for each vertex, the length of a shortest walk to it from vertex `from`. None if no walk that has
-- fewer edges than the graph has vertices leads there
pub record AreDistances (edges : List (List Edge)) (from : ℕ) (distances : List (Option ℕ)) : Type 0 where
  pub all : length distances ≡ length edges
  pub shortest : (a : ℕ) → a < length edges → slice_index_or distances a None
      ≡ shortest (heads edges) (length edges) from a

-- suppose that all edges lead to vertices, that `from` is a vertex, and that `distances` are the distances from it
-- (`AreDistances`). Then each distance is the length of a shortest walk from `from`, and no walk leads from `from` to
-- a vertex whose distance is None
abbrev pub DistancesLaw : Type 0
DistancesLaw = (edges : List (List Edge)) (from : ℕ) (distances : List (Option ℕ)) → LeadToVertices edges → from
    < length edges → AreDistances edges from distances
    → (a : ℕ) → a < length edges
    → MatchOption (slice_index_or distances a None) (HasNoWalk (heads edges) from a) (IsShortest (heads edges) from a)
