-- What a packet that came back along a directed route says of the node at the end of its path. InfiniBand
-- Architecture Specification, Volume 1: subnet management, NodeInfo, PortInfo and SwitchInfo; directed route SMPs.
use Rattle.std.specs.Prelude.{◌≡◌, ◌↔◌, ◌⊎◌, ℕ, ◌≤◌, true, List, Some, if◌then◌else◌}
use Rattle.fabric_model.specs.declared.cable.NodePort.{NodePort}
use Rattle.smp_bytes.specs.Header.{node_info, switch_info, port_info, done}
use Rattle.smp_bytes.specs.Field.{number_in, bits_in, bytes_in}
use Rattle.smp_bytes.specs.Packet.{attribute_id, attribute_modifier, attribute_data, hop_count, status}
use Rattle.smp_bytes.specs.NodeType.{is_switch}
use Rattle.fabric_model.specs.Fabric.{Node, Fabric, IsNodeAt}
use Rattle.fabric_model.specs.DirectedWalk.{directed_end}
use Rattle.attr_codec.specs.declared.node_info.NodeInfo.{NodeInfo}
use Rattle.attr_codec.specs.NodeInfo.{node_info_in}
use Rattle.attr_codec.specs.NodeTypeNumber.{number_of_type}
use Rattle.attr_codec.specs.PortInfo.{port_state}
use Rattle.attr_codec.specs.SwitchInfo.{linear_fdb_cap}

-- the ports of the path of a directed packet
abbrev pub path_of : List ℕ → List ℕ
path_of packet = bytes_in (record { at = 129; len = number_in hop_count packet }) packet

-- `info` says the GUID, the type and the port count of `node`, and the GUID and the number of its port `port`
pub record SaysNode (node : Node) (port : ℕ) (info : NodeInfo) : Type 0 where
  pub guid : info.node_guid ≡ node.guid
  pub kind : info.node_type ≡ number_of_type node.kind
  pub ports : info.num_ports ≡ node.ports
  pub port_guid : info.port_guid ≡ node.port_guid port
  pub local_port : info.local_port_num ≡ port

-- the port is up: there is a cable in it, or it is port 0 of a switch
abbrev pub IsUp : Fabric → ℕ → Node → ℕ → Type 0
IsUp f id node port = ((is_switch node.kind ≡ true) × (port ≡ 0))
    ⊎ ((far : NodePort) × (f.across (record { node = id; port = port }) ≡ Some far))

-- `state` is the number of a port state that is up: Initialize, Armed or Active
abbrev pub IsUpState : ℕ → Type 0
IsUpState state = (2 ≤ state) × (state ≤ 4)

-- the port that PortInfo is about: `modifier`, the port asked for, at a switch; `arrival`, the port at which the
-- request arrived, at an adapter
abbrev pub port_asked : Node → ℕ → ℕ → ℕ
port_asked node modifier arrival = if is_switch node.kind then modifier else arrival

-- the number `port` is at most the node's port count, and `state`, the port state in PortInfo, is up exactly when
-- this port is up
pub record SaysPort (f : Fabric) (id : ℕ) (node : Node) (port state : ℕ) : Type 0 where
  pub within : port ≤ node.ports
  pub up : IsUpState state ↔ IsUp f id node port

-- the node is a switch, and `entries` is the size of its forwarding table
pub record SaysSwitch (node : Node) (entries : ℕ) : Type 0 where
  pub kind : is_switch node.kind ≡ true
  pub cap : entries ≡ node.cap

-- what the attribute in the answer `packet` says is true of the node of the port `at`, which the request reached: the
-- NodeInfo, whether a port is up, or the table size of a switch
pub record SaysOf (f : Fabric) (at : NodePort) (packet : List ℕ) : Type 0 where
  pub node : Node
  pub there : IsNodeAt f at.node node
  pub node_info : number_in attribute_id packet ≡ node_info
      → SaysNode node at.port (node_info_in (bytes_in attribute_data packet))
  pub port_info : number_in attribute_id packet ≡ port_info
      → SaysPort f at.node node (port_asked node (number_in attribute_modifier packet) at.port)
      (bits_in port_state (bytes_in attribute_data packet))
  pub switch_info : number_in attribute_id packet ≡ switch_info
      → SaysSwitch node (number_in linear_fdb_cap (bytes_in attribute_data packet))

-- the path of `packet`, which was handed up at the port `at`, leads from `at` to some port; if the status is 0, what
-- `packet` says is true of the node at that port
pub record TellsOfEnd (f : Fabric) (at : NodePort) (packet : List ℕ) : Type 0 where
  pub end : NodePort
  pub leads : directed_end f at (path_of packet) ≡ Some end
  pub says : status packet ≡ done → SaysOf f end packet
