-- Laws of ranks: what roots, ranks, up and down are.
use Rattle.std.specs.Prelude.{◌≡◌, ◌<◌, ◌≤◌, ◌↔◌, ◌⊎◌, ℕ, List, Contains, IsTrue, MatchOption}
use Rattle.port_graph.specs.declared.edge.Edge.{Edge}
use Rattle.port_graph.specs.Walks.{Walk, IsShortest}
use Rattle.port_graph.specs.Slopes.{ups_at, downs_at}
use Rattle.subnet_view.specs.SwitchEdges.{SwitchEdges}
use Rattle.subnet_view.specs.Graph.{edges_at, neighbors}
use Rattle.subnet_view.specs.GraphLaws.{IsGraph, IsSwitch}
use Rattle.updown_routes.specs.Ranks.{rank_of, is_before, slopes_of}

-- `root` is the root of the component of switch `a`: a walk leads from `a` to `root`, and no walk leads from `a` to a
-- lesser GUID
pub record IsRoot (graph : List SwitchEdges) (a root : ℕ) : Type 0 where
  pub reached : (n : ℕ) × Walk (neighbors graph) a root n
  pub least : (b n : ℕ) → Walk (neighbors graph) a b n → root ≤ b

-- `n` is the rank of switch `a`: the length of a shortest walk to `a` from the root of its component
abbrev pub HasRank : List SwitchEdges → ℕ → ℕ → Type 0
HasRank graph a n = (root : ℕ) × IsRoot graph a root × IsShortest (neighbors graph) root a n

-- switch `a` is before switch `b`: it has a lesser rank, or an equal rank and a lesser GUID; true if either has no rank
abbrev pub IsBefore : List SwitchEdges → ℕ → ℕ → Type 0
IsBefore graph a b = (m n : ℕ) → HasRank graph a m → HasRank graph b n → (m < n) ⊎ ((m ≡ n) × (a < b))

-- the laws: ------------------------------------------------------------------------

-- each switch of a graph has a rank, and `rank_of` gives it (`HasRank`)
abbrev pub RankLaw : Type 0
RankLaw = (graph : List SwitchEdges) → IsGraph graph → (a : ℕ) → IsSwitch graph a
    → MatchOption (rank_of graph a) ⊥ (HasRank graph a)

-- for switches of a graph, `is_before` is true exactly when `IsBefore` holds
abbrev pub BeforeLaw : Type 0
BeforeLaw = (graph : List SwitchEdges) → IsGraph graph → (a b : ℕ) → IsSwitch graph a → IsSwitch graph b
    → IsTrue (is_before graph a b) ↔ IsBefore graph a b

-- in a graph, the edges up of a switch are exactly its edges to switches before it, and its edges down are exactly its
-- edges to switches after it (`IsBefore`)
abbrev pub SlopeLaw : Type 0
SlopeLaw = (graph : List SwitchEdges) → IsGraph graph → (a : ℕ) (e : Edge) → IsSwitch graph a
    → (Contains (ups_at (slopes_of graph) a) e ↔ (Contains (edges_at graph a) e × IsBefore graph e.to a))
    × (Contains (downs_at (slopes_of graph) a) e ↔ (Contains (edges_at graph a) e × IsBefore graph a e.to))
