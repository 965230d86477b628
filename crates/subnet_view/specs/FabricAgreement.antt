-- When a view describes a part of a fabric, or describes it exactly. The LIDs that ports claim in the view may be
-- anything. InfiniBand Architecture Specification, Volume 1: subnet management, NodeInfo, PortInfo and SwitchInfo.
use Rattle.std.specs.Prelude.{◌≡◌, ◌↔◌, ℕ, Some, IsTrue}
use Rattle.fabric_model.specs.declared.cable.NodePort.{NodePort}
use Rattle.smp_bytes.specs.NodeType.{is_switch}
use Rattle.fabric_model.specs.Fabric as fabric
use Rattle.fabric_model.specs.Fabric.{Fabric, IsNodeAt, IsPortNamed}
use Rattle.fabric_model.specs.FabricWalks as walks
use Rattle.fabric_model.specs.FabricWalks.{vertex_of}
use Rattle.reply_facts.specs.Known.{node_of, port_guid_of, cap_of}
use Rattle.subnet_view.specs.Reading.{Cells, IsUsable}
use Rattle.subnet_view.specs.EndPort.{IsEndPort}
use Rattle.subnet_view.specs.Wires.{IsWire}

-- a part of a fabric, as a set of vertices. Examples are the whole fabric, and everything that is joined to one vertex
abbrev pub Part : Type 1
Part = NodePort → Type 0

-- the part that contains every vertex
abbrev pub WholeFabric : Part
WholeFabric vertex = Unit {0}

-- `port` is an end port of the part, and `node` is its node
pub record IsEndPortIn (part : Part) (f : Fabric) (port : NodePort) (node : fabric.Node) : Type 0 where
  pub node_there : IsNodeAt f port.node node
  pub end_port : fabric.IsEndPort f port
  pub in_part : part port

-- port `p` of a node with the GUID `g` is an end port of the part
pub record HasEndPort (part : Part) (f : Fabric) (g p : ℕ) : Type 0 where
  pub port : NodePort
  pub named : IsPortNamed f g p port
  pub end_port : fabric.IsEndPort f port
  pub in_part : part port

-- a wire in a port of the part leads from port `p` of a node with the GUID `g` to port `q` of a node with the GUID `h`
pub record HasWire (part : Part) (f : Fabric) (g p h q : ℕ) : Type 0 where
  pub from : NodePort
  pub to : NodePort
  pub from_named : IsPortNamed f g p from
  pub to_named : IsPortNamed f h q to
  pub wire : walks.IsWire f from to
  pub in_part : part (vertex_of f from)

-- `cells` have the type and the number of ports of `node` and the GUID of its port `p`; if `node` is a switch, also its
-- table size
pub record TellsEndPort (cells : Cells) (node : fabric.Node) (p : ℕ) : Type 0 where
  pub kind : node_of cells node.guid ≡ Some (node.kind, node.ports)
  pub port_guid : port_guid_of cells node.guid p ≡ Some (node.port_guid p)
  pub cap : IsTrue (is_switch node.kind) → cap_of cells node.guid ≡ Some node.cap

-- the view describes the part. It has the part's end ports and their nodes, and in ports of the part it has exactly the
-- part's wires. The part's nodes have different GUIDs. Elsewhere the view may say anything, for instance about nodes
-- that are gone
pub record Covers (part : Part) (cells : Cells) (f : Fabric) : Type 0 where
  pub guids_distinct : (p q : NodePort) (a b : fabric.Node) → IsEndPortIn part f p a → IsEndPortIn part f q b → a.guid
      ≡ b.guid → p.node ≡ q.node
  pub tells_end_ports : (port : NodePort) (node : fabric.Node) → IsEndPortIn part f port node
      → TellsEndPort cells node port.port
  pub wires_told : (g p h q : ℕ) → HasWire part f g p h q → IsWire cells g p h q
  pub wires_there : (port : NodePort) (node : fabric.Node) → IsNodeAt f port.node node → part (vertex_of f port)
      → (h q : ℕ) → IsWire cells node.guid port.port h q → HasWire part f node.guid port.port h q

-- the view describes the part exactly. It has the part's end ports and their nodes, the part's switches and the part's
-- wires, and no others. The part's nodes have different GUIDs
pub record AgreesOn (part : Part) (cells : Cells) (f : Fabric) : Type 0 where
  pub guids_distinct : (p q : NodePort) (a b : fabric.Node) → IsEndPortIn part f p a → IsEndPortIn part f q b → a.guid
      ≡ b.guid → p.node ≡ q.node
  pub tells_end_ports : (port : NodePort) (node : fabric.Node) → IsEndPortIn part f port node
      → TellsEndPort cells node port.port
  pub end_ports_exist : (g p : ℕ) → IsEndPort cells g p → HasEndPort part f g p
  pub switches_exist : (g : ℕ) → IsUsable cells g → HasEndPort part f g 0
  pub wires : (g p h q : ℕ) → IsWire cells g p h q ↔ HasWire part f g p h q
