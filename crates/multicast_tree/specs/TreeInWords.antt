-- What the ports to parents and the ports of the tree are, in words.
use Rattle.std.specs.Prelude.{◌≡◌, ◌↔◌, ◌≤◌, ◌<◌, ◌⊎◌, false, ℕ, List, Contains, IsTrue, MatchOption}
use Rattle.fact_store.specs.View.{Facts, cells_of}
use Rattle.port_graph.specs.declared.edge.Edge.{Edge}
use Rattle.subnet_view.specs.Reading.{Cells, is_usable, switches}
use Rattle.subnet_view.specs.Wires.{IsWire}
use Rattle.subnet_view.specs.SwitchEdges.{SwitchEdges}
use Rattle.subnet_view.specs.Graph.{edges_at, graph_of}
use Rattle.subnet_view.specs.GraphLaws.{IsGraph}
use Rattle.multicast_tree.specs.Tree.{InTree, parent_port, position_in, tree_in}

-- edge `e` of switch `g` leads to its parent: a neighbor with a lesser position than `g`, such that no neighbor has a
-- lesser position. No other edge to such a neighbor has a lesser port
pub record LeadsToParent (graph : List SwitchEdges) (position : ℕ → ℕ) (g : ℕ) (e : Edge) : Type 0 where
  pub edge : Contains (edges_at graph g) e
  pub earlier : position e.to < position g
  pub earliest : (other : Edge) → Contains (edges_at graph g) other → position e.to ≤ position other.to
  pub least_port : (other : Edge) → Contains (edges_at graph g) other → position other.to ≡ position e.to
      → e.port ≤ other.port

-- no neighbor of switch `g` has a lesser position than `g`
abbrev pub HasNoParent : List SwitchEdges → (ℕ → ℕ) → ℕ → Type 0
HasNoParent graph position g = (e : Edge) → Contains (edges_at graph g) e → position g ≤ position e.to

-- `parent_port` gives the port of the edge that leads to the parent of a switch (`LeadsToParent`), and none exactly if
-- the switch has no parent
abbrev pub ParentLaw : Type 0
ParentLaw = (graph : List SwitchEdges) (position : ℕ → ℕ) → IsGraph graph → (g : ℕ)
    → MatchOption (parent_port graph position g) (HasNoParent graph position g)
    (λ port. (e : Edge) × (e.port ≡ port) × LeadsToParent graph position g e)

-- a wire from port `p` of the usable switch `g` is in the tree: it leads to the parent of `g`, it comes from a switch
-- whose parent is `g`, or it leads to an adapter
pub record IsTreePort (cells : Cells) (position : ℕ → ℕ) (g p : ℕ) : Type 0 where
  pub usable : IsTrue (is_usable cells g)
  pub node : ℕ
  pub port : ℕ
  pub wire : IsWire cells g p node port
  pub leads : LeadsToParent (graph_of cells) position g (record { port = p; to = node })
      ⊎ (LeadsToParent (graph_of cells) position node (record { port = port; to = g })
      ⊎ (is_usable cells node ≡ false))

-- for any positions of switches, the ports of their tree are exactly those of `IsTreePort`
abbrev pub TreeLaw : Type 0
TreeLaw = (facts : Facts) (positions : List ℕ) (g p : ℕ) → InTree (tree_in (cells_of facts) positions) g p
    ↔ IsTreePort (cells_of facts) (position_in (switches (cells_of facts)) positions) g p
