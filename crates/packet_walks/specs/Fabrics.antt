-- When facts describe a fabric that holds tables, and what then becomes of packets in it. InfiniBand Architecture
-- Specification, Volume 1: subnet management, PortInfo (LID), SwitchInfo (LinearFDBTop) and LinearForwardingTable;
-- switches, unicast forwarding by the linear forwarding table.
use Rattle.std.specs.Prelude.{◌≡◌, ◌≤◌, ℕ, List, Option, None, Some, IsTrue}
use Rattle.fabric_model.specs.declared.cable.NodePort.{NodePort}
use Rattle.smp_bytes.specs.NodeType.{is_switch}
use Rattle.fabric_model.specs.Fabric.{Node, Fabric, IsFabric, IsNodeAt, IsEndPort, owns, IsPortNamed}
use Rattle.fabric_model.specs.Forwarding.{Hop, IsDelivered, IsLost}
use Rattle.fact_store.specs.View.{Facts, cells_of}
use Rattle.subnet_view.specs.Reading.{Cells}
use Rattle.subnet_view.specs.FabricAgreement.{Part, WholeFabric, IsEndPortIn, AgreesOn, Covers}
use Rattle.fabric_model.specs.FabricWalks.{IsJoinedTo}
use Rattle.held_tables.specs.Held.{HeldPlan}
use Rattle.packet_walks.specs.declared.packet_end.End.{End}
use Rattle.packet_walks.specs.declared.packet_end.End.TheVariants.{Taken, Lost}
use Rattle.packet_walks.specs.HopsByTables.{IsBrought}
use Rattle.held_tables.specs.Tables.{owners_of, is_owner, counted, entry_for}

-- each end port owns, of the LIDs other than 0, exactly those that the held tables give to the end port. The
-- effective entry of each switch, according to the top and the table of the switch's agent, is the effective entry
-- under the held tables: 255 for LIDs above the top and in blocks that are not held. The other entries of the agent's
-- table may be anything
pub record HoldsTables (held : HeldPlan) (f : Fabric) : Type 0 where
  pub lids : (port : NodePort) (node : Node) (lid : ℕ) → IsNodeAt f port.node node → IsEndPort f port → 1 ≤ lid
      → owns f port lid ≡ is_owner (owners_of held lid) (record { node = node.guid; port = port.port })
  pub entries : (id : ℕ) (node : Node) (lid : ℕ) → IsNodeAt f id node → IsTrue (is_switch node.kind)
      → counted lid (f.top id) (f.entry id lid) ≡ entry_for held lid node.guid

-- `f` is a fabric that the facts describe exactly and that holds the tables
pub record IsSeen (cells : Cells) (held : HeldPlan) (f : Fabric) : Type 0 where
  pub is_fabric : IsFabric f
  pub agrees : AgreesOn WholeFabric cells f
  pub holds : HoldsTables held f

-- each end port of `part` owns, of the LIDs other than 0, exactly those that the held tables give to the end port,
-- and each switch there has the effective entries of the held tables
pub record HoldsTablesIn (part : Part) (held : HeldPlan) (f : Fabric) : Type 0 where
  pub lids : (port : NodePort) (node : Node) (lid : ℕ) → IsEndPortIn part f port node → 1 ≤ lid
      → owns f port lid ≡ is_owner (owners_of held lid) (record { node = node.guid; port = port.port })
  pub entries : (port : NodePort) (node : Node) (lid : ℕ) → IsEndPortIn part f port node → IsTrue (is_switch node.kind)
      → counted lid (f.top port.node) (f.entry port.node lid) ≡ entry_for held lid node.guid

-- the facts describe `part`, whatever else they say, and the part holds the tables
pub record IsSeenIn (part : Part) (cells : Cells) (held : HeldPlan) (f : Fabric) : Type 0 where
  pub is_fabric : IsFabric f
  pub covers : Covers part cells f
  pub holds : HoldsTablesIn part held f

-- if `end` is a delivery, the packet for `lid` from `source` is delivered at the port that `end` names. If `end` is a
-- loss, or None for a packet that loops forever, the packet is lost
abbrev pub EndsAs : Fabric → ℕ → NodePort → Option End → Type 0
EndsAs f lid source (Some (Taken e)) =
    (hops : List Hop) × (target : NodePort) × IsPortNamed f e.node e.port target × IsDelivered f lid source hops target
EndsAs f lid source (Some (Lost g cause)) = (hops : List Hop) × (id : ℕ) × IsLost f lid source hops id
EndsAs f lid source None = (hops : List Hop) × (id : ℕ) × IsLost f lid source hops id

-- if the facts describe the fabric exactly and the fabric holds the tables, a packet that an end port sends for a LID
-- other than 0 ends as facts and tables say
abbrev pub PacketsEndAsTold : Type 0
PacketsEndAsTold = (facts : Facts) (held : HeldPlan) (f : Fabric) → IsSeen (cells_of facts) held f
    → (source : NodePort) (node : Node) (lid : ℕ) (end : Option End) → IsNodeAt f source.node node → IsEndPort f source
    → 1 ≤ lid
    → IsBrought (cells_of facts) held lid (record { node = node.guid; port = source.port }) end
    → EndsAs f lid source end

-- if the facts describe the part that is joined to the end port `origin` and this part holds the tables, a packet
-- that an end port of the part sends for a LID other than 0 ends as facts and tables say
abbrev pub PacketsEndAsToldInParts : Type 0
PacketsEndAsToldInParts = (facts : Facts) (held : HeldPlan) (f : Fabric) (origin : NodePort) → IsEndPort f origin
    → IsSeenIn (IsJoinedTo f origin) (cells_of facts) held f
    → (source : NodePort) (node : Node) (lid : ℕ) (end : Option End) → IsEndPortIn (IsJoinedTo f origin) f source node
    → 1 ≤ lid
    → IsBrought (cells_of facts) held lid (record { node = node.guid; port = source.port }) end
    → EndsAs f lid source end

-- a packet for `lid` from `source` is delivered at `target`
pub record ArrivesAt (f : Fabric) (source target : NodePort) (lid : ℕ) : Type 0 where
  pub hops : List Hop
  pub delivered : IsDelivered f lid source hops target
