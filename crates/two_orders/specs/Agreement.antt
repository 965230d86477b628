-- How far positions agree with the order that grows by a plan, and how far the orders that grow from these positions
-- agree with it.
use Rattle.std.specs.Prelude.{◌<◌, ℕ, suc, List, Contains, length}
use Rattle.std.specs.Prelude.{◌≡◌}
use Rattle.port_graph.specs.declared.edge.Edge.{Edge}
use Rattle.port_graph.specs.Heads.{LeadToVertices, edges_at, heads}
use Rattle.port_graph.specs.Walks.{Walk}
use Rattle.spread_labels.specs.KeyOrder.{before_by}
use Rattle.spread_labels.specs.LabelLaws.{IsSymmetric}
use Rattle.spread_labels.specs.Orders.{order}
use Rattle.spread_labels.specs.declared.key_order.VertexKey.{VertexKey}
use Rattle.two_orders.specs.Growth.{grown_by, number_at, positions_in}
use Rattle.two_orders.specs.Trees.{tree}

-- `vertices` has each of `n` vertices once, and no others
pub record AreVertices (n : ℕ) (vertices : List ℕ) : Type 0 where
  pub all : (s : ℕ) → s < n → Contains vertices s
  pub vertex : (i : ℕ) → i < length vertices → number_at vertices i < n
  pub once : (i j : ℕ) → i < length vertices → j < i → number_at vertices j ≡ number_at vertices i → ⊥

-- according to `position`, the first `k` of `vertices` come in the order of the list, and before all other vertices
-- of the list
abbrev pub AgreesUpTo : List ℕ → (ℕ → ℕ) → ℕ → Type 0
AgreesUpTo vertices position k =
    (i j : ℕ) → i < k → i < j → j < length vertices
    → position (number_at vertices i) < position (number_at vertices j)

-- if the positions `told` agree with the order that grows by `plan` up to its first `k` vertices (`AgreesUpTo`), so
-- does the order that grows by `told`
abbrev pub AgreementStays : Type 0
AgreementStays =
    (edges : List (List Edge)) → LeadToVertices edges → (plan told : List ℕ) (k : ℕ)
    → AgreesUpTo (grown_by edges plan) (number_at told) k
    → AgreesUpTo (grown_by edges plan) (number_at (positions_in (grown_by edges told) (length edges))) k

-- suppose the positions `told` agree with the order that grows by `plan` up to its first `k` vertices (`AgreesUpTo`).
-- Then the order that grows by `plan` in the tree of `told` agrees with the order that grows by `plan` up to its
-- first `k` + 1 vertices
abbrev pub AgreementGrows : Type 0
AgreementGrows =
    (edges : List (List Edge)) → LeadToVertices edges → (plan told : List ℕ) (k : ℕ)
    → AgreesUpTo (grown_by edges plan) (number_at told) k
    → AgreesUpTo (grown_by edges plan) (number_at (positions_in (grown_by (tree edges told) plan) (length edges))) (suc k)

-- the order that grows by the positions in an order that grew, by whatever keys, is the same order
abbrev pub GrowsAgain : Type 0
GrowsAgain =
    (edges : List (List Edge)) → LeadToVertices edges → (keys : List VertexKey)
    → grown_by edges (positions_in (order edges (before_by keys)) (length edges)) ≡ order edges (before_by keys)

-- different vertices have different positions. Each vertex from which a walk leads to an earlier vertex has an edge to
-- an earlier vertex
pub record CouldGrow (edges : List (List Edge)) (position : ℕ → ℕ) : Type 0 where
  pub apart : (a b : ℕ) → a < length edges → b < length edges → position a ≡ position b → a ≡ b
  pub earlier : (a b k : ℕ) → a < length edges → b < length edges → Walk (heads edges) a b k → position b < position a
      → (e : Edge) × Contains (edges_at edges a) e × (position e.to < position a)

-- if positions could have grown (`CouldGrow`) and edges go both ways, the order that grows by the positions keeps the
-- order of the positions within each component
abbrev pub GrownOrdersStay : Type 0
GrownOrdersStay =
    (edges : List (List Edge)) → LeadToVertices edges → IsSymmetric edges → (positions : List ℕ)
    → CouldGrow edges (number_at positions)
    → (a b k : ℕ) → a < length edges → b < length edges → Walk (heads edges) a b k
    → number_at positions a < number_at positions b
    → number_at (positions_in (grown_by edges positions) (length edges)) a
    < number_at (positions_in (grown_by edges positions) (length edges)) b
