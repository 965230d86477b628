-- The channels that packets take in a fabric, and their numbers. InfiniBand Architecture Specification, Volume 1:
-- switches, unicast forwarding by the linear forwarding table; link layer, flow control by credits.
use Rattle.std.specs.Prelude.{◌≡◌, ◌<◌, ◌≤◌, ◌+◌, ◌*◌, ℕ, List, Some, IsTrue, slice_get}
use Rattle.fabric_model.specs.declared.cable.NodePort.{NodePort}
use Rattle.smp_bytes.specs.NodeType.{is_switch}
use Rattle.fabric_model.specs.Fabric.{Node, Fabric, IsNodeAt, IsEndPort}
use Rattle.fabric_model.specs.FabricWalks.{IsWire, IsJoinedTo}
use Rattle.fabric_model.specs.Forwarding.{Standing, sent_from, Hop, Goes}
use Rattle.fact_store.specs.View.{Facts, cells_of}
use Rattle.subnet_view.specs.Reading.{Cells, switches}
use Rattle.subnet_view.specs.FabricAgreement.{Part, IsEndPortIn}
use Rattle.packet_walks.specs.Held.{HeldPlan}
use Rattle.packet_walks.specs.Fabrics.{IsSeenIn}
use Rattle.packet_walks.specs.Switches.{index_in}
use Rattle.audit_channels.specs.ChannelOrders.{CanRise}
use Rattle.audit_channels.specs.Waiting.{WaitsFor}

-- `hop` goes from one switch to another, and `channel` is 256 times the index of the first switch among the usable
-- switches, plus the port by which the packet leaves it
pub record IsChannel (cells : Cells) (f : Fabric) (hop : Hop) (channel : ℕ) : Type 0 where
  pub wire : IsWire f hop.out hop.into
  pub from : Node
  pub from_there : IsNodeAt f hop.out.node from
  pub from_switch : IsTrue (is_switch from.kind)
  pub to : Node
  pub to_there : IsNodeAt f hop.into.node to
  pub to_switch : IsTrue (is_switch to.kind)
  pub index : ℕ
  pub index_is : index_in (switches cells) from.guid ≡ Some index
  pub channel_is : channel ≡ 256 * index + hop.out.port

-- `channel` and `next` are the channels of two consecutive hops of `hops`, both between switches
pub record TakeInTurn (cells : Cells) (f : Fabric) (hops : List Hop) (channel next : ℕ) : Type 0 where
  pub nth : ℕ
  pub hop : Hop
  pub later : Hop
  pub hop_is : slice_get hops nth ≡ Some hop
  pub later_is : slice_get hops (nth + 1) ≡ Some later
  pub channel_is : IsChannel cells f hop channel
  pub next_is : IsChannel cells f later next

-- a packet that an end port of `part` sends for some LID other than 0 first takes `hops`, in this order
pub record Travels (part : Part) (f : Fabric) (hops : List Hop) : Type 0 where
  pub source : NodePort
  pub node : Node
  pub is_source : IsEndPortIn part f source node
  pub lid : ℕ
  pub is_lid : 1 ≤ lid
  pub end : Standing
  pub goes : Goes f lid (sent_from source) hops end

-- suppose the facts describe all that is joined to the end port `origin`, the end ports and switches there hold the
-- tables, and numbers rise along the ways of packets according to facts and tables (`CanRise`). Then of two
-- channels that a packet from an end port there takes in turn, the second has the greater number
abbrev pub ChannelsRise : Type 0
ChannelsRise =
    (facts : Facts) (held : HeldPlan) (f : Fabric) (origin : NodePort) → IsEndPort f origin
    → IsSeenIn (IsJoinedTo f origin) (cells_of facts) held f
    → (r : CanRise (WaitsFor (cells_of facts) held))
    → (hops : List Hop) → Travels (IsJoinedTo f origin) f hops → (channel next : ℕ)
    → TakeInTurn (cells_of facts) f hops channel next
    → r.number channel < r.number next
