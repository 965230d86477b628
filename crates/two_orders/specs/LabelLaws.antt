-- Laws of labels by two orders: walks that follow labels go up and then down by both orders.
use Rattle.std.specs.Prelude.{◌≡◌, ◌&&◌, ℕ, Bool, true, false, List, Contains, Option, None, Some, length}
use Rattle.port_graph.specs.declared.edge.Edge.{Edge}
use Rattle.port_graph.specs.Heads.{LeadToVertices, edges_at, heads}
use Rattle.port_graph.specs.Walks.{Walk}
use Rattle.spread_labels.specs.LabelLaws.{IsSymmetric}
use Rattle.two_orders.specs.declared.labels.Sides.{Sides}
use Rattle.two_orders.specs.Growth.{grown_by, positions_in}
use Rattle.two_orders.specs.Labels.{both_down, label_at, labels_from, leads_on}
use Rattle.two_orders.specs.Trees.{is_earlier, tree}
use Rattle.two_orders.specs.TwoOrders.{TwoOrders, two_orders}

-- vertex `i` has a label, and an edge from `i` to vertex `j` leads on by that label
pub record GoesOn (orders : TwoOrders) (labels : List (Option Sides)) (i j : ℕ) : Type 0 where
  pub label : Sides
  pub has : label_at labels i ≡ Some label
  pub leads : leads_on orders labels label i j ≡ true

-- whether a walk from vertex `i` through `j` to `k` goes down and then up by `positions`
abbrev pub turns_up : List ℕ → ℕ → ℕ → ℕ → Bool
turns_up positions i j k = is_earlier positions i j && is_earlier positions k j

-- whatever the labels are, two edges that lead on by labels, one after the other, never go down and then up by either
-- order
abbrev pub LabelsTurnWell : Type 0
LabelsTurnWell =
    (orders : TwoOrders) (labels : List (Option Sides)) (i j k : ℕ) → GoesOn orders labels i j → GoesOn orders labels j k
    → (turns_up orders.first i j k ≡ false) × (turns_up orders.second i j k ≡ false)

-- each vertex that has a label, but had none in `firsts`, has an edge that leads on by its label
abbrev pub LabelledGoOn : Type 0
LabelledGoOn =
    (edges : List (List Edge)) (orders : TwoOrders) (firsts : List (Option Sides)) (i : ℕ) (label : Sides)
    → label_at (labels_from edges orders firsts) i ≡ Some label → label_at firsts i ≡ None
    → (e : Edge) × Contains (edges_at edges i) e × GoesOn orders (labels_from edges orders firsts) i e.to

-- two orders: the order that grows by `told`, and the order that grows by `plan` in the tree of the first order
abbrev pub grown_twice : List (List Edge) → List ℕ → List ℕ → TwoOrders
grown_twice edges told plan =
    two_orders (positions_in (grown_by edges told) (length edges))
    (grown_by (tree edges (positions_in (grown_by edges told) (length edges))) plan) (length edges)

-- `firsts` has an item for each vertex, and each label in it is down by both orders. The vertices that have a label are
-- the targets
pub record AreTargets (edges : List (List Edge)) (firsts : List (Option Sides)) : Type 0 where
  pub as_many : length firsts ≡ length edges
  pub down : (i : ℕ) (label : Sides) → label_at firsts i ≡ Some label → label ≡ both_down

-- suppose that the edges of a graph lead to vertices and go both ways, that at first only the targets have labels
-- (`AreTargets`), and that the two orders are those of `grown_twice`. Then each vertex from which a walk leads to a
-- target gets a label
abbrev pub AllGetLabels : Type 0
AllGetLabels =
    (edges : List (List Edge)) → LeadToVertices edges → IsSymmetric edges → (told plan : List ℕ)
    → (firsts : List (Option Sides)) → AreTargets edges firsts → (v t n : ℕ) → Walk (heads edges) v t n
    → label_at firsts t ≡ Some both_down
    → (label : Sides) × (label_at (labels_from edges (grown_twice edges told plan) firsts) v ≡ Some label)
