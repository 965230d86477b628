-- The law of ways in the grown order: each vertex has a way to each vertex of its component, whichever candidates are
-- picked.
use Rattle.std.specs.Prelude.{◌≡◌, ◌<◌, ℕ, Bool, List, length, Some}
use Rattle.port_graph.specs.declared.edge.Edge.{Edge}
use Rattle.port_graph.specs.Walks.{Walk}
use Rattle.port_graph.specs.Heads.{heads, LeadToVertices}
use Rattle.spread_labels.specs.declared.label.Mark.{Mark}
use Rattle.spread_labels.specs.Labels.{marks}
use Rattle.spread_labels.specs.LabelLaws.{IsSymmetric}
use Rattle.spread_labels.specs.Ways.{Way, PicksCandidates}
use Rattle.spread_labels.specs.Orders.{order, position_of, by_position}

-- vertex `s` has a label towards vertex `t`, at a cost less than the number of vertices. A way along the picked edges
-- leads from `s` to `t`, and has as many edges as the cost
pub record HasWay (edges : List (List Edge)) (pick : ℕ → Edge) (t s : ℕ) : Type 0 where
  pub mark : Mark
  pub labelled : marks edges t s ≡ Some mark
  pub bounded : mark.cost < length edges
  pub way : Way edges pick t s mark.cost

-- the graph with its vertices numbered by their positions in the order that grows by `before`
abbrev pub grown : List (List Edge) → (ℕ → ℕ → Bool) → List (List Edge)
grown edges before = by_position edges (order edges before)

-- if the edges of a graph lead to vertices and go both ways, and `pick` gives candidates, then in the grown order a
-- way to a LID's home (`HasWay`) leads from each vertex from which a walk leads to the home
abbrev pub EveryPairLaw : Type 0
EveryPairLaw = (edges : List (List Edge)) (before : ℕ → ℕ → Bool) → LeadToVertices edges → IsSymmetric edges
    → (home : ℕ → ℕ) (pick : ℕ → ℕ → Edge) → PicksCandidates (grown edges before) home pick
    → (lid s t n : ℕ) → s < length edges → t < length edges → Walk (heads edges) s t n → home lid
    ≡ position_of (order edges before) t
    → HasWay (grown edges before) (pick lid) (home lid) (position_of (order edges before) s)
