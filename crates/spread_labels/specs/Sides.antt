-- The edges of a graph that lead up and those that lead down, in separate lists, as slopes need them.
use Rattle.std.specs.Prelude.{ℕ, suc, Bool, nat_lt, List, [], ◌∷◌, filter}
use Rattle.port_graph.specs.declared.edge.Edge.{Edge}
use Rattle.port_graph.specs.Slopes.{Slope}
use Rattle.port_graph.specs.NextPorts.{indexed, AreSlopes}
use Rattle.port_graph.specs.Routes.{Climbs, Descends}
use Rattle.spread_labels.specs.LabelLaws.{IsSymmetric}
use Rattle.spread_labels.specs.Ways.{Climbs as ClimbsBy, Descends as DescendsBy}

-- for each of some vertices, whose numbers start at `k`, its edges that pass `test`
abbrev pub rows_from : (ℕ → Edge → Bool) → ℕ → List (List Edge) → List (List Edge)
rows_from test k [] = []
rows_from test k (es ∷ rows) = filter (test k) es ∷ rows_from test (suc k) rows

-- the edges of each vertex that lead up
abbrev pub ups_of : List (List Edge) → List (List Edge)
ups_of edges = rows_from (λ s e. nat_lt e.to s) 0 edges

-- the edges of each vertex that lead down
abbrev pub downs_of : List (List Edge) → List (List Edge)
downs_of edges = rows_from (λ s e. nat_lt s e.to) 0 edges

-- the slopes of a graph: the edges up and the edges down of each vertex
abbrev pub slopes_of : List (List Edge) → List Slope
slopes_of edges = indexed (ups_of edges) (downs_of edges)

-- the edges up and down are slopes. Edges that climb or descend in the graph also do so among the slopes
pub record AreSides (edges : List (List Edge)) : Type 0 where
  pub slopes : AreSlopes (ups_of edges) (downs_of edges)
  pub climbs : (es : List Edge) (s u : ℕ) → ClimbsBy edges s es u → Climbs (slopes_of edges) s es u
  pub descends : (es : List Edge) (s u : ℕ) → DescendsBy edges s es u → Descends (slopes_of edges) s es u

-- if the edges of a graph go both ways, its edges up and down satisfy `AreSides`
abbrev pub SidesLaw : Type 0
SidesLaw = (edges : List (List Edge)) → IsSymmetric edges → AreSides edges
