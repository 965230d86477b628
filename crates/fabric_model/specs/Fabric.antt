-- A fabric: its nodes, the cables between their ports, and what is set at its agents.
use Rattle.std.specs.Prelude.{◌≡◌, ℕ, ◌≤◌, Bool, false, List, Option, Some, slice_get, count_by, MatchBool}
use Rattle.std.specs.Option.{option_map_or}
use Rattle.smp_bytes.specs.declared.node_type.NodeType.{NodeType}
use Rattle.fabric_model.specs.declared.cable.NodePort.{NodePort}
use Rattle.smp_bytes.specs.NodeType.{is_switch}
use Rattle.smp_bytes.specs.LidRange.{has_lid}

-- a node as built: its GUID, its type, its number of ports without port 0, the number of LIDs that its table has room
-- for, and the GUID of each port. Only the GUIDs of end ports are read (subnet management chapter, NodeInfo and
-- SwitchInfo)
pub record Node : Type 0 where
  pub guid : ℕ
  pub kind : NodeType
  pub ports : ℕ
  pub cap : ℕ
  pub port_guid : ℕ → ℕ

-- a fabric. It has its nodes by number; the other end of the cable in each port, or None if there is no cable; the LID
-- and the LMC of each end port; and the forwarding table and the top of each switch
pub record Fabric : Type 0 where
  pub nodes : List Node
  pub across : NodePort → Option NodePort
  pub base_lid : NodePort → ℕ
  pub lmc : NodePort → ℕ
  pub entry : ℕ → ℕ → ℕ
  pub top : ℕ → ℕ

-- the LID and the LMC of the end port `p`
abbrev pub range_at : Fabric → NodePort → ℕ × ℕ
range_at f p = (f.base_lid p, f.lmc p)

-- whether `lid` is one of the LIDs of the end port `p` (addressing chapter)
abbrev pub owns : Fabric → NodePort → ℕ → Bool
owns f p lid = has_lid (f.base_lid p) (f.lmc p) lid

-- `node` is the node with the number `number`
abbrev pub IsNodeAt : Fabric → ℕ → Node → Type 0
IsNodeAt f number node = slice_get f.nodes number ≡ Some node

-- whether there is a node with the number `number`, and it is a switch
abbrev pub is_switch_at : Fabric → ℕ → Bool
is_switch_at f number = option_map_or (λ node. is_switch node.kind) (slice_get f.nodes number) false

-- a cable may be in port `p`: the node of `p` is in the fabric, and `p` has a number from 1 to the port count of that
-- node
abbrev pub IsCablePort : Fabric → NodePort → Type 0
IsCablePort f p = (node : Node) × IsNodeAt f p.node node × (1 ≤ p.port) × (p.port ≤ node.ports)

-- if `node` is a switch, `port` is 0; otherwise `port` is from 1 to the number of ports of `node`
abbrev pub IsEndPortNumber : Node → ℕ → Type 0
IsEndPortNumber node port = MatchBool (is_switch node.kind) (port ≡ 0) ((1 ≤ port) × (port ≤ node.ports))

-- `p` is an end port: port 0 of a switch, or a port of another node
abbrev pub IsEndPort : Fabric → NodePort → Type 0
IsEndPort f p = (node : Node) × IsNodeAt f p.node node × IsEndPortNumber node p.port

-- each node has 1 to 254 ports. Each cable is in ports that nodes have, and a cable that leads from `p` to `q` also
-- leads from `q` to `p`. Thus a cable joins two ports or loops one
pub record IsFabric (f : Fabric) : Type 0 where
  pub counts : (number : ℕ) (node : Node) → IsNodeAt f number node → (1 ≤ node.ports) × (node.ports ≤ 254)
  pub cabled : (p q : NodePort) → f.across p ≡ Some q → IsCablePort f p
  pub both_ways : (p q : NodePort) → f.across p ≡ Some q → f.across q ≡ Some p

-- the number of switches of a fabric
abbrev pub switch_count : Fabric → ℕ
switch_count f = count_by (λ node. is_switch node.kind) f.nodes

-- `port` is port `p` of a node with the GUID `g`
pub record IsPortNamed (f : Fabric) (g p : ℕ) (port : NodePort) : Type 0 where
  pub node : Node
  pub node_there : IsNodeAt f port.node node
  pub guid_is : node.guid ≡ g
  pub port_is : port.port ≡ p
