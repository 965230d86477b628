-- Where packets come in at usable switches, and where they go from there. A stop is a port by which packets come in at
-- a usable switch. Its number is 256 times the index of the switch, plus the port. The port is 0 for packets that the
-- switch itself sends.
use Rattle.std.specs.Prelude.{◌≡◌, ◌≤◌, ℕ, zero, suc, ◌/◌, ◌%◌, ◌+◌, ◌*◌, ◌&&◌, List, [], Option, None, Some, length}
use Rattle.std.specs.Prelude.{nat_lt, slice_index_or, if◌then◌else◌}
use Rattle.port_graph.specs.declared.edge.Edge.{Edge}
use Rattle.subnet_view.specs.Reading.{Cells, switches}
use Rattle.subnet_view.specs.declared.end_port.EndPort.{EndPort}
use Rattle.held_tables.specs.declared.far_end.Far.{Far}
use Rattle.held_tables.specs.declared.far_end.Far.TheVariants.{Nothing, Switch, Port}
use Rattle.held_tables.specs.declared.senders.Sender.{Sender}
use Rattle.held_tables.specs.Switches.{sender_of}
use Rattle.lanes_file.specs.Lanes.{LanesSaid, lane_of}
use Rattle.lane_channels.specs.FarPorts.{far_port, far_port_by}

-- the stop at port `port` of the switch at `index`
abbrev pub stop_at : ℕ → ℕ → ℕ
stop_at index port = 256 * index + port

-- the stop at which a sender's packets first reach a usable switch: port 0 of the switch that the sender itself is, if
-- its index is given, or else port `port` of the switch to which the sender's wire leads; None if the packets reach no
-- usable switch
abbrev pub stop_by : Option ℕ → Far → ℕ → Option ℕ
stop_by (Some index) far port = Some (stop_at index 0)
stop_by None (Switch index) port = Some (stop_at index port)
stop_by None Nothing port = None
stop_by None (Port e) port = None

-- the stop at which the packets of `source` first reach a usable switch, where `port` is the port at the far end of
-- the wire of `source`; None if these packets reach no usable switch
abbrev pub stop_from : Sender → ℕ → Option ℕ
stop_from source port = stop_by source.switch source.far port

-- the stop at which the packets of end port `e` first reach a usable switch; None if these packets reach no usable
-- switch
abbrev pub first_stop : Cells → EndPort → Option ℕ
first_stop cells e = stop_from (sender_of cells e) (far_port cells e.node e.port)

-- the GUID of the usable switch at `index`; 0 if there is no such switch
abbrev pub guid_at : Cells → ℕ → ℕ
guid_at cells index = slice_index_or (switches cells) index 0

-- the lane of packets of `level` that come in at the switch at `index` by port `into` and leave it by port `out`
abbrev pub lane_between : LanesSaid → Cells → ℕ → ℕ → ℕ → ℕ → ℕ
lane_between said cells level index into out = lane_of said (guid_at cells index) into out level

-- the lane on which a packet of `level` at `stop` leaves along `edge`
abbrev pub lane_by : LanesSaid → Cells → ℕ → ℕ → Edge → ℕ
lane_by said cells level stop edge = lane_between said cells level (stop / 256) (stop % 256) edge.port

-- `lane` if it is below 15; None if packets on it are dropped
abbrev pub lane_if_carried : ℕ → Option ℕ
lane_if_carried lane = if nat_lt lane 15 then Some lane else None

-- the number of the channel by port `out` of the switch at `index`, on `lane`
abbrev pub lane_number : ℕ → ℕ → ℕ → ℕ
lane_number index out lane = 16 * (256 * index + out) + lane

-- the port at the far end of the wire in port `out` of the switch at `index`; 0 if there is no wire
abbrev pub port_across : Cells → ℕ → ℕ → ℕ
port_across cells index out = far_port_by cells (256 * index + out)

-- the stop to which a packet of `level` at `stop` goes along `edge`; None if the packet is dropped, or if `edge` leads
-- to no usable switch
abbrev pub carried : LanesSaid → Cells → ℕ → ℕ → Edge → Option ℕ
carried said cells level stop edge =
    if nat_lt edge.to (length (switches cells)) && nat_lt (lane_by said cells level stop edge) 15
    then Some (stop_at edge.to (port_across cells (stop / 256) edge.port)) else None

-- for each of several tables a column, which has the edge of each usable switch for a LID, in ascending order of GUID
abbrev pub Columns : Type 0
Columns = List (List (Option Edge))

-- the edge of the switch at `index` in the column at `nth`; None if the switch has none there
abbrev pub edge_by : Columns → ℕ → ℕ → Option Edge
edge_by columns index nth = slice_index_or (slice_index_or columns nth []) index None

-- the switch at `index` has the edge in some column
abbrev pub HasEdge : Columns → ℕ → Edge → Type 0
HasEdge columns index edge = (nth : ℕ) × (edge_by columns index nth ≡ Some edge)

-- a packet of `level` at `stop` goes to the stop `next`, along the switch's edge in some column; it is not dropped
pub record IsNextStop (said : LanesSaid) (cells : Cells) (columns : Columns) (level stop next : ℕ) : Type 0 where
  pub edge : Edge
  pub leaves : HasEdge columns (stop / 256) edge
  pub carried_is : carried said cells level stop edge ≡ Some next

-- a packet of `level` that begins at `first` reaches `stop` in `count` steps, each along the switch's edge in some
-- column
abbrev pub ComesAfter : LanesSaid → Cells → Columns → ℕ → ℕ → Option ℕ → ℕ → Type 0
ComesAfter said cells columns level zero first stop = first ≡ Some stop
ComesAfter said cells columns level (suc count) first stop =
    (before : ℕ) × ComesAfter said cells columns level count first before
    × IsNextStop said cells columns level before stop

-- each column has at most as many edges as there are usable switches
abbrev pub AreWithin : Cells → Columns → Type 0
AreWithin cells columns = (nth : ℕ) → length (slice_index_or columns nth []) ≤ length (switches cells)
