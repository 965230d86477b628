-- The laws of audits: plans pass, and if tables pass, packets arrive and the facts know all.
use Rattle.std.specs.Prelude.{◌≡◌, ◌⊎◌, ◌≤◌, ℕ, false, Contains, IsTrue, Some}
use Rattle.smp_bytes.specs.declared.node_type.NodeType.TheVariants.{Switch}
use Rattle.fabric_model.specs.declared.cable.NodePort.{NodePort}
use Rattle.fabric_model.specs.Fabric.{Node, Fabric, IsEndPort, owns, IsPortNamed}
use Rattle.fabric_model.specs.FabricWalks.{IsJoinedTo}
use Rattle.fact_join.specs.declared.cell.Cell.{Cell}
use Rattle.reply_facts.specs.declared.key.Key.TheVariants as key
use Rattle.reply_facts.specs.declared.value.Value.{Value}
use Rattle.reply_facts.specs.Known.{link_of}
use Rattle.fact_store.specs.View.{Facts, cells_of, AreInRange}
use Rattle.subnet_view.specs.EndPort.{IsNodeWith}
use Rattle.subnet_view.specs.Reading.{Cells}
use Rattle.subnet_view.specs.FabricAgreement.{Part, IsEndPortIn}
use Rattle.audit_counts.specs.Gaps.{IsKnownNode, IsKnownPort, unjoined_ports}
use Rattle.lid_assign.specs.Lids.{IsNoRoom}
use Rattle.lft_blocks.specs.Rule.{RuleValue}
use Rattle.lft_blocks.specs.Plan.{plan_of}
use Rattle.held_tables.specs.Held.{HeldPlan}
use Rattle.plan_tables.specs.PlanTables.{held_plan}
use Rattle.packet_walks.specs.Fabrics.{ArrivesAt, IsSeenIn}
use Rattle.audit_report.specs.SentPacket.{SentPacket}
use Rattle.audit_report.specs.Packets.{arrives, packets_of}
use Rattle.audit_report.specs.Passing.{EachNodeIsKnown, Passes}

-- if a view's facts are in range and have room for the LIDs, and have the type of each node that they name and, for a
-- switch, the table room too, the tables of the view's plan under each rule and each LMC pass an audit against the
-- view
abbrev pub PlansPass : Type 0
PlansPass =
    (rule : RuleValue) (lmc : ℕ) (facts : Facts) → AreInRange facts → ¬ (IsNoRoom lmc (cells_of facts))
    → EachNodeIsKnown (cells_of facts)
    → Passes (cells_of facts) (held_plan (plan_of rule lmc (cells_of facts)))

-- it is known where port `p` of node `g` leads, or the port is listed as unjoined
abbrev pub IsKnownOrTold : Cells → ℕ → ℕ → Type 0
IsKnownOrTold cells g p = IsKnownPort cells g p ⊎ Contains (unjoined_ports cells) (record { node = g; port = p })

-- node `g` is known; and it is known where its port `p` leads, or the port is listed as unjoined
abbrev pub AreKnown : Cells → ℕ → ℕ → Type 0
AreKnown cells g p = IsKnownNode cells g × IsKnownOrTold cells g p

-- each node that a fact names is known, and so is each port that a fact names unless it is listed as unjoined; this
-- includes disputed facts
pub record KnowsAll (cells : Cells) : Type 0 where
  pub nodes : (g : ℕ) (c : Cell Value) → Contains cells ((key.Node g), c) → IsKnownNode cells g
  pub rooms : (g : ℕ) (c : Cell Value) → Contains cells ((key.Cap g), c) → IsKnownNode cells g
  pub guids : (g p : ℕ) (c : Cell Value) → Contains cells ((key.PortGuid g p), c) → AreKnown cells g p
  pub states : (g p : ℕ) (c : Cell Value) → Contains cells ((key.Port g p), c) → AreKnown cells g p
  pub claims : (g p : ℕ) (c : Cell Value) → Contains cells ((key.Claim g p), c) → AreKnown cells g p
  pub links : (g p : ℕ) (c : Cell Value) → Contains cells ((key.Link g p), c) → AreKnown cells g p
  pub far_ends : (g p h q : ℕ) → link_of cells g p ≡ Some (h, q) → AreKnown cells h q
  pub switches : (g ports : ℕ) → IsNodeWith cells g Switch ports → AreKnown cells g 0

-- if tables pass an audit against the facts, the facts know all (`KnowsAll`)
abbrev pub PassingAuditsKnowAll : Type 0
PassingAuditsKnowAll = (facts : Facts) (held : HeldPlan) → Passes (cells_of facts) held → KnowsAll (cells_of facts)

-- each packet from an end port of `part` to a LID that an end port of `part` owns is delivered at the owner
abbrev pub EachArrivesIn : Part → Fabric → Type 0
EachArrivesIn part f = (source target : NodePort) (from into : Node) (lid : ℕ) → IsEndPortIn part f source from
    → IsEndPortIn part f target into → 1 ≤ lid
    → IsTrue (owns f target lid) → ArrivesAt f source target lid

-- suppose the facts describe the part that is joined to the end port `origin`, the part holds the tables, and the
-- tables pass an audit against the facts. Then each packet between end ports of this part is delivered at the end
-- port that owns the packet's LID
abbrev pub PassingAuditsDeliver : Type 0
PassingAuditsDeliver =
    (facts : Facts) (held : HeldPlan) (f : Fabric) (origin : NodePort) → IsEndPort f origin
    → IsSeenIn (IsJoinedTo f origin) (cells_of facts) held f
    → Passes (cells_of facts) held → EachArrivesIn (IsJoinedTo f origin) f

-- if the facts describe all that is joined to the end port `origin`, and this part holds the tables, a packet for a
-- LID other than 0 that is counted as not arriving is not delivered at the end port of its line
abbrev pub MissedPacketsMiss : Type 0
MissedPacketsMiss =
    (facts : Facts) (held : HeldPlan) (f : Fabric) (origin : NodePort) → IsEndPort f origin
    → IsSeenIn (IsJoinedTo f origin) (cells_of facts) held f
    → (packet : SentPacket) → Contains (packets_of (cells_of facts) held) packet → arrives packet ≡ false
    → 1 ≤ packet.line.lid
    → (source target : NodePort) (from : Node) → IsEndPortIn (IsJoinedTo f origin) f source from
    → packet.source ≡ record { node = from.guid; port = source.port }
    → IsPortNamed f packet.line.port.node packet.line.port.port target
    → ¬ (ArrivesAt f source target packet.line.lid)
