-- How multicast packets are copied in a fabric, and what the copies do where its switches have the masks of a tree.
-- InfiniBand Architecture Specification, Volume 1: switches, multicast forwarding by the multicast forwarding table.
use Rattle.std.specs.Prelude.{◌≡◌, ◌≢◌, ◌↔◌, true, false, ℕ, Bool, IsTrue, List, Some, option_map}
use Rattle.fabric_model.specs.declared.cable.NodePort.{NodePort}
use Rattle.smp_bytes.specs.NodeType.{is_switch}
use Rattle.fabric_model.specs.Fabric.{Fabric, IsEndPort, IsFabric, Node, is_switch_at}
use Rattle.fabric_model.specs.FabricWalks.{IsJoinedTo, vertex_of}
use Rattle.fact_store.specs.View.{Facts, cells_of}
use Rattle.subnet_view.specs.FabricAgreement.{Covers, IsEndPortIn, Part}
use Rattle.lft_blocks.specs.Rule.{RuleValue}
use Rattle.multicast_tree.specs.Copies.{CopyGoes, Copying}
use Rattle.multicast_tree.specs.Tree.{InTree, TreePorts, tree_in, tree_of}

-- a port as node number and port number
abbrev pub pair_of : NodePort → ℕ × ℕ
pair_of port = (port.node, port.port)

-- how the packets of a group are copied on the cables of a fabric. Nodes are named by number
abbrev pub copying_at : Fabric → (ℕ → ℕ → Bool) → Copying
copying_at f group = record {
  across = λ n p. option_map pair_of (f.across (record { node = n; port = p }));
  is_switch = is_switch_at f;
  group = group;
}

-- each port that the mask of a switch of the part has is in the tree
abbrev pub IsWithinAt : Part → List TreePorts → Fabric → (ℕ → ℕ → Bool) → Type 0
IsWithinAt part tree f group = (port : NodePort) (node : Node) → IsEndPortIn part f port node
    → IsTrue (is_switch node.kind) → (p : ℕ) → group port.node p ≡ true → InTree tree node.guid p

-- the mask of each switch of the part has exactly the switch's ports in the tree
abbrev pub IsWholeAt : Part → List TreePorts → Fabric → (ℕ → ℕ → Bool) → Type 0
IsWholeAt part tree f group = (port : NodePort) (node : Node) → IsEndPortIn part f port node
    → IsTrue (is_switch node.kind) → (p : ℕ) → (group port.node p ≡ true) ↔ InTree tree node.guid p

-- `end` is an end port of the part at a node that is not a switch
pub record IsAdapterPortIn (part : Part) (f : Fabric) (end : NodePort) : Type 0 where
  pub node : Node
  pub here : IsEndPortIn part f end node
  pub not_a_switch : is_switch node.kind ≡ false

-- `sender` is an adapter port of the part, and its cable leads to the port `at` of a switch
pub record IsSenderIn (part : Part) (f : Fabric) (sender at : NodePort) : Type 0 where
  pub adapter : IsAdapterPortIn part f sender
  pub cable : f.across sender ≡ Some at
  pub to_switch : is_switch_at f at.node ≡ true

-- suppose facts describe the part of a fabric that a port is joined to, and the masks of the part's switches are within
-- the tree of any positions. Then two copies of a packet that came in by one port of the part, and that arrive at one
-- port, go by the same ports. So a packet comes to no port twice, and none goes round
abbrev pub NoPortTwiceInFabric : Type 0
NoPortTwiceInFabric = (facts : Facts) (positions : List ℕ) (f : Fabric) (origin : NodePort) → IsFabric f
    → Covers (IsJoinedTo f origin) (cells_of facts) f
    → (group : ℕ → ℕ → Bool) → IsWithinAt (IsJoinedTo f origin) (tree_in (cells_of facts) positions) f group
    → (at end : NodePort) (node : Node) (ports others : List ℕ)
    → IsEndPortIn (IsJoinedTo f origin) f (vertex_of f at) node
    → CopyGoes (copying_at f group) (pair_of at) ports (pair_of end)
    → CopyGoes (copying_at f group) (pair_of at) others (pair_of end) → ports ≡ others

-- suppose facts describe the part of a fabric that an end port is joined to, and the masks of the part's switches are
-- within the tree of any positions. Then no copy of a packet comes back to the adapter port of the part that sent it
abbrev pub NoneToTheSenderInFabric : Type 0
NoneToTheSenderInFabric = (facts : Facts) (positions : List ℕ) (f : Fabric) (origin : NodePort) → IsFabric f
    → IsEndPort f origin → Covers (IsJoinedTo f origin) (cells_of facts) f
    → (group : ℕ → ℕ → Bool) → IsWithinAt (IsJoinedTo f origin) (tree_in (cells_of facts) positions) f group
    → (sender at : NodePort) (ports : List ℕ) → IsSenderIn (IsJoinedTo f origin) f sender at
    → CopyGoes (copying_at f group) (pair_of at) ports (pair_of sender) → ⊥

-- of a packet that came in by the port `at`, exactly one copy arrives at the port `end`
pub record IsOneCopy (by : Copying) (at end : ℕ × ℕ) : Type 0 where
  pub ports : List ℕ
  pub goes : CopyGoes by at ports end
  pub no_other : (others : List ℕ) → CopyGoes by at others end → ports ≡ others

-- suppose facts describe the part of a fabric that an end port is joined to, and the masks of the part's switches are
-- the tree of a rule. Then of what an adapter port of the part sends to a switch, exactly one copy comes to each other
-- adapter port of the part
abbrev pub EachGetsOneCopyInFabric : Type 0
EachGetsOneCopyInFabric = (rule : RuleValue) (facts : Facts) (f : Fabric) (origin : NodePort) → IsFabric f
    → IsEndPort f origin → Covers (IsJoinedTo f origin) (cells_of facts) f
    → (group : ℕ → ℕ → Bool) → IsWholeAt (IsJoinedTo f origin) (tree_of rule (cells_of facts)) f group
    → (sender at receiver : NodePort) → IsSenderIn (IsJoinedTo f origin) f sender at
    → IsAdapterPortIn (IsJoinedTo f origin) f receiver → sender ≢ receiver
    → IsOneCopy (copying_at f group) (pair_of at) (pair_of receiver)
