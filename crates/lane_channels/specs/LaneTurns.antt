-- Channels by lane that packets take one after the other. InfiniBand Architecture Specification, Volume 1: link layer,
-- virtual lanes, service level and SL-to-VL mapping.
use Rattle.std.specs.Prelude.{◌≡◌, ◌<◌, ◌≤◌, ◌/◌, ℕ}
use Rattle.port_graph.specs.declared.edge.Edge.{Edge}
use Rattle.subnet_view.specs.Reading.{Cells}
use Rattle.lanes_file.specs.Lanes.{LanesSaid}
use Rattle.lane_channels.specs.Stops.{Columns, HasEdge, lane_between, lane_by, lane_number, port_across}

-- a packet of `level` at `stop` leaves that switch on the channel by lane `channel`, along an edge of some column. It
-- leaves the next switch on the channel by lane `next`, along an edge of some column. Neither switch drops it
pub record TakesByLane (said : LanesSaid) (cells : Cells) (columns : Columns) (level : ℕ) (stop : ℕ) (channel next : ℕ)
    : Type 0 where
  pub first : Edge
  pub second : Edge
  pub leaves : HasEdge columns (stop / 256) first
  pub lane_is : lane_by said cells level stop first < 15
  pub leaves_there : HasEdge columns first.to second
  pub lane_there_is : lane_between said cells level first.to (port_across cells (stop / 256) first.port) second.port < 15
  pub channel_is : channel ≡ lane_number (stop / 256) first.port (lane_by said cells level stop first)
  pub next_is : next
      ≡ lane_number first.to second.port (lane_between said cells level first.to (port_across cells (stop / 256) first.port) second.port)

-- the switch at `stop` would forward a packet of `level` by port `out`, its edge in some column, but has no lane for it
-- and drops it
pub record DropsBefore (said : LanesSaid) (cells : Cells) (columns : Columns) (level : ℕ) (stop : ℕ) (out : ℕ) : Type 0
  where
    pub edge : Edge
    pub leaves : HasEdge columns (stop / 256) edge
    pub lane_is : 15 ≤ lane_by said cells level stop edge
    pub out_is : out ≡ edge.port
