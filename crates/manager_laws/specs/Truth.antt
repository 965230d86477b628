-- When a fact is true of a fabric. The LID that a port claims may be anything. InfiniBand Architecture Specification,
-- Volume 1: subnet management, NodeInfo, PortInfo and SwitchInfo.
use Rattle.std.specs.Prelude.{◌≡◌, ◌↔◌, ℕ, ◌≤◌, true, Some, IsTrue}
use Rattle.fabric_model.specs.declared.cable.NodePort.{NodePort}
use Rattle.smp_bytes.specs.NodeType.{is_switch}
use Rattle.fabric_model.specs.Fabric as fabric
use Rattle.fabric_model.specs.Fabric.{Fabric, IsEndPortNumber, IsNodeAt}
use Rattle.fact_join.specs.declared.cell.Cell.{Cell}
use Rattle.fact_join.specs.declared.cell.Cell.TheVariants.{Known, Disputed}
use Rattle.reply_facts.specs.declared.key.Key.{Key}
use Rattle.reply_facts.specs.declared.key.Key.TheVariants.{Node, PortGuid, Link, Port, Claim, Cap}
use Rattle.reply_facts.specs.declared.value.Value.{Value}
use Rattle.reply_facts.specs.declared.value.Value.TheVariants.{Kind, Guid, Peer, Up, Lid, Count}
use Rattle.fabric_sim.specs.ToldOfEnd.{IsUp}

-- `node` is the node `id` of the fabric, and has the GUID `guid`
pub record HasNode (f : Fabric) (guid id : ℕ) (node : fabric.Node) : Type 0 where
  pub there : IsNodeAt f id node
  pub named : node.guid ≡ guid

-- a cable leads from the port `port` of the node `id` to the port `via` of a node with the GUID `peer`
pub record HasCable (f : Fabric) (id port peer via : ℕ) : Type 0 where
  pub far : NodePort
  pub other : fabric.Node
  pub cable : f.across (record { node = id; port = port }) ≡ Some far
  pub node : HasNode f peer far.node other
  pub port_is : far.port ≡ via

-- the fabric has the value for the key. For a claim any LID will do; a value of a kind other than the key's is not
-- true
abbrev pub IsTrueOf : Fabric → Key → Value → Type 0
IsTrueOf f (Node guid) (Kind kind ports) =
    (id : ℕ) × (node : fabric.Node) × HasNode f guid id node × (node.kind ≡ kind) × (node.ports ≡ ports)
IsTrueOf f (PortGuid guid port) (Guid value) =
    (id : ℕ) × (node : fabric.Node) × HasNode f guid id node × IsEndPortNumber node port × (node.port_guid port ≡ value)
IsTrueOf f (Link guid port) (Peer peer via) =
    (id : ℕ) × (node : fabric.Node) × HasNode f guid id node × HasCable f id port peer via
IsTrueOf f (Port guid port) (Up up) =
    (id : ℕ) × (node : fabric.Node) × HasNode f guid id node × (port ≤ node.ports) × (IsTrue up ↔ IsUp f id node port)
IsTrueOf f (Claim guid port) (Lid lid) = Unit {0}
IsTrueOf f (Cap guid) (Count cap) =
    (id : ℕ) × (node : fabric.Node) × HasNode f guid id node × (is_switch node.kind ≡ true) × (node.cap ≡ cap)
IsTrueOf f key value = ⊥

-- the sighting's value is true of the fabric; a disputed sighting is not
abbrev pub IsTrueSighting : Fabric → Key × Cell Value → Type 0
IsTrueSighting f (key, Known generation value) = IsTrueOf f key value
IsTrueSighting f (key, Disputed generation) = ⊥

-- no two nodes of the fabric have the same GUID
abbrev pub AreGuidsDistinct : Fabric → Type 0
AreGuidsDistinct f = (here there : ℕ) (one other : fabric.Node) → IsNodeAt f here one → IsNodeAt f there other
    → one.guid ≡ other.guid → here ≡ there
