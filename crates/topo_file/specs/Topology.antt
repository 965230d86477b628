-- What a topology is: nodes with different names, and links between their ports.
use Rattle.std.specs.Prelude.{◌≡◌, ◌≢◌, ◌&&◌, ◌==◌, ℕ, Bool, suc, ◌+◌, ◌<◌, ◌≤◌, ◌^◌, List, [], ◌∷◌, All, Option, None, Some, IsTrue, option_map, length}
use Rattle.std.specs.Prelude.{slice_get, if◌then◌else◌}
use Rattle.std.specs.List.{AllPairs, list_any}
use Rattle.std.specs.Str.{bytes_eq}
use Rattle.smp_bytes.specs.NodeType.{is_switch}
use Rattle.smp_bytes.specs.declared.node_type.NodeType.{NodeType}
use Rattle.smp_bytes.specs.declared.node_type.NodeType.TheVariants.{ChannelAdapter, Switch, Router}
use Rattle.fabric_model.specs.declared.cable.Cable.{Cable}
use Rattle.fabric_model.specs.declared.cable.NodePort.{NodePort}
use Rattle.topo_file.specs.declared.node.Node.{Node}
use Rattle.text_words.specs.NodeName.{is_name}

-- a topology: its nodes, whose ids are their indices, and the links between their ports
pub record Layout : Type 0 where
  pub nodes : List Node
  pub links : List Cable

-- the id, which is the index, of the first node with the name `name`; None if no node has this name
abbrev pub id_of : List Node → List ℕ → Option ℕ
id_of [] name = None
id_of (node ∷ nodes) name = if bytes_eq node.name name then Some 0 else option_map suc (id_of nodes name)

-- the given id is that of a node with the name `name`; if it is None, no node has this name
abbrev pub IsFound : List Node → List ℕ → Option ℕ → Type 0
IsFound nodes name None = All (λ node. node.name ≢ name) nodes
IsFound nodes name (Some id) = (node : Node) × (slice_get nodes id ≡ Some node) × (node.name ≡ name)

-- whether `node` is a switch with the GUID `guid`
abbrev pub is_switch_with : ℕ → Node → Bool
is_switch_with guid node = is_switch node.kind && (node.guid == guid)

-- whether one of `nodes` is a switch with the GUID `guid`
abbrev pub has_switch : List Node → ℕ → Bool
has_switch nodes guid = list_any (is_switch_with guid) nodes

-- `cap` and `guid` fit the type of a node with `ports` ports: a switch has a table of 1 to 49,152 entries; a channel
-- adapter has none, and the GUID of its last port, `guid` plus `ports`, fits in 64 bits; nothing fits a router
abbrev pub IsOfKind : NodeType → ℕ → ℕ → ℕ → Type 0
IsOfKind Switch ports guid cap = (1 ≤ cap) × (cap ≤ 0xC000)
IsOfKind ChannelAdapter ports guid cap = (cap ≡ 0) × (guid + ports < 2 ^ 64)
IsOfKind Router ports guid cap = ⊥

-- a topology may have `node`: it has a valid name (`is_name`), 1 to 254 ports, a 64-bit GUID, and a table and port
-- GUIDs that fit its type
pub record IsNode (node : Node) : Type 0 where
  pub named : IsTrue (is_name node.name)
  pub some_ports : 1 ≤ node.ports
  pub port_range : node.ports ≤ 254
  pub guid_range : node.guid < 2 ^ 64
  pub of_kind : IsOfKind node.kind node.ports node.guid node.cap

-- `p` is a port of a node in the list, and its number is from 1 to the port count of the node
pub record IsPortIn (nodes : List Node) (p : NodePort) : Type 0 where
  pub node : Node
  pub there : slice_get nodes p.node ≡ Some node
  pub some : 1 ≤ p.port
  pub within : p.port ≤ node.ports

-- both ends of `link` are ports of nodes in the list
pub record IsLinkIn (nodes : List Node) (link : Cable) : Type 0 where
  pub one : IsPortIn nodes link.one
  pub other : IsPortIn nodes link.other

-- the links `x` and `y` have no port in common
pub record AreApart (x y : Cable) : Type 0 where
  pub one_one : x.one ≢ y.one
  pub one_other : x.one ≢ y.other
  pub other_one : x.other ≢ y.one
  pub other_other : x.other ≢ y.other

-- `t` has at most 1,024 nodes, each a node that a topology may have (`IsNode`), with different names, and links
-- between their ports, at most one in each port
pub record IsTopology (t : Layout) : Type 0 where
  pub few : length t.nodes ≤ 1024
  pub nodes : All IsNode t.nodes
  pub names : AllPairs (λ x y. x.name ≢ y.name) t.nodes
  pub links : All (IsLinkIn t.nodes) t.links
  pub apart : AllPairs AreApart t.links

-- no two nodes have the same GUID
abbrev pub GuidsDiffer : List Node → Type 0
GuidsDiffer nodes = AllPairs (λ x y. x.guid ≢ y.guid) nodes
