-- Premises that can be met: each definition says that there is an example.
use Rattle.std.specs.Prelude.{◌≢◌, ℕ, IsTrue, List}
use Rattle.smp_bytes.specs.NodeType.{is_switch}
use Rattle.fabric_model.specs.declared.cable.NodePort.{NodePort}
use Rattle.fabric_model.specs.Fabric.{Fabric, IsEndPort, Node}
use Rattle.fabric_model.specs.FabricWalks.{IsJoinedTo}
use Rattle.fabric_model.specs.Forwarding.{Hop}
use Rattle.fact_store.specs.View.{Facts, cells_of}
use Rattle.subnet_view.specs.FabricAgreement.{IsEndPortIn}
use Rattle.held_tables.specs.declared.held.HeldLid.{HeldLid}
use Rattle.held_tables.specs.Held.{HeldPlan}
use Rattle.held_tables.specs.Tables.{entry_for}
use Rattle.packet_walks.specs.Fabrics.{IsSeen, IsSeenIn}
use Rattle.audit_channels.specs.Fabrics.{TakeInTurn, Travels}
use Rattle.next_tables.specs.ChangingFabric.{IsInChange, entry_now}
use Rattle.next_tables.specs.NextTables.{IsKept, next_tables, settled_first}

-- an example: facts describe all that is joined to an end port, and this part holds tables
pub record PartSeen : Type 0 where
  pub facts : Facts
  pub held : HeldPlan
  pub fabric : Fabric
  pub origin : NodePort
  pub is_end : IsEndPort fabric origin
  pub seen : IsSeenIn (IsJoinedTo fabric origin) (cells_of facts) held fabric

-- in some example, facts describe the whole fabric exactly, and the fabric holds the tables
abbrev pub SomeFabricIsSeen : Type 0
SomeFabricIsSeen = (part : PartSeen) × IsSeen (cells_of part.facts) part.held part.fabric

-- in the part, a packet takes two channels one after the other
pub record TravelsThere (part : PartSeen) : Type 0 where
  pub hops : List Hop
  pub travels : Travels (IsJoinedTo part.fabric part.origin) part.fabric hops
  pub channel : ℕ
  pub next : ℕ
  pub in_turn : TakeInTurn (cells_of part.facts) part.fabric hops channel next

-- in some part, a packet takes two channels one after the other
abbrev pub SomePacketTravels : Type 0
SomePacketTravels = (part : PartSeen) × TravelsThere part

-- the part of the example has a switch
pub record SwitchThere (part : PartSeen) : Type 0 where
  pub port : NodePort
  pub node : Node
  pub there : IsEndPortIn (IsJoinedTo part.fabric part.origin) part.fabric port node
  pub kind : IsTrue (is_switch node.kind)

-- tables are in a change towards a plan by settled entries, for a LID that one end port alone holds in the held tables
-- and in the plan. One switch of the part has another entry than before, and one does not have its next entry yet
pub record ChangesThere (part : PartSeen) : Type 0 where
  pub plan : HeldPlan
  pub line : HeldLid
  pub kept : IsKept part.held plan line
  pub now : Fabric
  pub changes : IsInChange (IsJoinedTo part.fabric part.origin) (cells_of part.facts) part.held
      (next_tables (cells_of part.facts) settled_first part.held plan) line.lid part.fabric now
  pub changed : SwitchThere part
  pub other : entry_now now line.lid changed.port.node ≢ entry_now part.fabric line.lid changed.port.node
  pub waiting : SwitchThere part
  pub behind : entry_now now line.lid waiting.port.node
      ≢ entry_for (next_tables (cells_of part.facts) settled_first part.held plan) line.lid waiting.node.guid

-- in some part, tables change: one switch has another entry than before, and one does not have its next entry yet
abbrev pub SomeTablesChange : Type 0
SomeTablesChange = (part : PartSeen) × ChangesThere part
