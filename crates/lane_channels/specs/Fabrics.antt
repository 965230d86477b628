-- The lanes that packets take in a fabric, and the numbers of their channels. InfiniBand Architecture Specification,
-- Volume 1: link layer, virtual lanes, service level and SL-to-VL mapping, flow control by credits.
use Rattle.std.specs.Prelude.{◌≡◌, ◌<◌, ◌≤◌, ◌+◌, ◌*◌, ℕ, zero, suc, Bool, List, Some, IsTrue, slice_get}
use Rattle.std.specs.Option.{option_map_or}
use Rattle.fabric_model.specs.declared.cable.NodePort.{NodePort}
use Rattle.smp_bytes.specs.NodeType.{is_switch}
use Rattle.fabric_model.specs.Fabric.{Node, Fabric}
use Rattle.fabric_model.specs.Forwarding.{Standing, sent_from, Hop, Goes}
use Rattle.subnet_view.specs.Reading.{Cells}
use Rattle.subnet_view.specs.FabricAgreement.{Part, IsEndPortIn}
use Rattle.audit_channels.specs.Fabrics.{IsChannel}
use Rattle.lanes_file.specs.Lanes.{LanesSaid, lane_of}
use Rattle.lane_channels.specs.LaneNetwork.{SeenByLane}
use Rattle.lane_channels.specs.Levels.{HasLevel}

-- the lane of a packet; it depends on the node, the port by which the packet comes in, the port by which it leaves,
-- and its service level
abbrev pub LaneMaps : Type 0
LaneMaps = ℕ → ℕ → ℕ → ℕ → ℕ

-- the switches of `part` map service levels to lanes as the text says; a switch's own packets come in by port 0
abbrev pub HoldLanes : Part → LanesSaid → Fabric → LaneMaps → Type 0
HoldLanes part said f vl =
    (port : NodePort) (node : Node) (into out level : ℕ) → IsEndPortIn part f port node → IsTrue (is_switch node.kind)
    → vl port.node into out level ≡ lane_of said node.guid into out level

-- the port by which a packet came in at the node from which it takes the hop at the given index of the list; 0 if the
-- packet was sent from that node
abbrev pub came_by : ℕ → List Hop → ℕ
came_by zero hops = 0
came_by (suc nth) hops = option_map_or (λ (h : Hop). h.into.port) (slice_get hops nth) 0

-- the lane on which a packet of `level` takes `hop`, the hop at index `nth`
abbrev pub lane_at : LaneMaps → ℕ → List Hop → ℕ → Hop → ℕ
lane_at vl level hops nth hop = vl hop.out.node (came_by nth hops) hop.out.port level

-- the hop at index `nth` goes from one switch to another, and `channel` is the channel by lane on which a packet of
-- `level` takes this hop
pub record IsLaneChannel (cells : Cells) (f : Fabric) (vl : LaneMaps) (level : ℕ) (hops : List Hop) (nth channel : ℕ)
    : Type 0 where
  pub hop : Hop
  pub hop_is : slice_get hops nth ≡ Some hop
  pub one_lane : ℕ
  pub is : IsChannel cells f hop one_lane
  pub channel_is : channel ≡ 16 * one_lane + lane_at vl level hops nth hop

-- among the first `count` of `hops`, a packet of `level` has a lane below 15 on each hop from one switch to another
abbrev pub IsCarried : Cells → Fabric → LaneMaps → ℕ → List Hop → ℕ → Type 0
IsCarried cells f vl level hops count =
    (nth : ℕ) (hop : Hop) (one_lane : ℕ) → nth < count → slice_get hops nth ≡ Some hop → IsChannel cells f hop one_lane
    → lane_at vl level hops nth hop < 15

-- a packet that an end port of `part` sends for some LID, at the level `level` that it has, takes `hops` first
pub record TravelsAt (s : SeenByLane) (answers : Bool) (part : Part) (f : Fabric) (level : ℕ) (hops : List Hop) : Type 0
  where
    pub source : NodePort
    pub node : Node
    pub is_source : IsEndPortIn part f source node
    pub lid : ℕ
    pub is_lid : 1 ≤ lid
    pub has_level : HasLevel s.said answers s.seen.held (record { node = node.guid; port = source.port }) lid level
    pub end : Standing
    pub goes : Goes f lid (sent_from source) hops end
