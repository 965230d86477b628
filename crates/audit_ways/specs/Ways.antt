-- The routes of packets that adapter ports send to each other, and how often they take each channel. InfiniBand
-- Architecture Specification, Volume 1: switches, unicast forwarding by the linear forwarding table.
use Rattle.std.specs.Prelude.{◌≡◌, ◌+◌, ◌*◌, ◌==◌, ◌&&◌, ℕ, zero, suc, Bool, true, false, not, List, [], ◌∷◌, Option, None, Some, Contains, count_by, filter, length, map, slice_get, slice_index_or, if◌then◌else◌}
use Rattle.std.specs.List.{flat_map, range_with_len, sum_by}
use Rattle.std.specs.Option.{option_map_or}
use Rattle.port_graph.specs.declared.edge.Edge.{Edge}
use Rattle.audit_channels.specs.Column.{number_of}
use Rattle.subnet_view.specs.declared.end_port.EndPort.{EndPort}
use Rattle.subnet_view.specs.EndPort.{end_ports}
use Rattle.subnet_view.specs.Reading.{Cells, switches}
use Rattle.held_tables.specs.declared.held.HeldLid.{HeldLid}
use Rattle.held_tables.specs.Held.{HeldPlan}
use Rattle.packet_walks.specs.declared.packet_end.End.{End}
use Rattle.held_tables.specs.declared.far_end.Far.{Far}
use Rattle.held_tables.specs.declared.far_end.Far.TheVariants.{Nothing, Switch, Port}
use Rattle.packet_walks.specs.Edges.{edges_of}
use Rattle.held_tables.specs.Switches.{far_by, far_of}
use Rattle.packet_walks.specs.HopsByTables.{end_for, is_at}
use Rattle.held_tables.specs.Tables.{is_owner, is_same_end, lines_of}
use Rattle.audit_ways.specs.declared.way_figures.WayFigures.{WayFigures}
use Rattle.audit_ways.specs.Figures.{figures_of}

-- the route of a packet: the number of its wires, including the wires at the adapters, and its channels; a channel is a
-- wire between usable switches, taken in one direction
pub record Way : Type 0 where
  pub wires : ℕ
  pub channels : List ℕ

-- the channels that a packet takes along `edges`, starting at `switch`; at most as many as the first argument says
abbrev pub channels_from : ℕ → List (Option Edge) → ℕ → List ℕ
channels_from zero edges switch = []
channels_from (suc steps) edges switch =
    option_map_or (λ edge. number_of switch edge
    ∷ channels_from steps edges edge.to) (slice_index_or edges switch None) []

-- the route from an adapter along one wire to `switch`, then along the channels that `edges` give, and along one wire
-- to an adapter
abbrev pub way_from : List (Option Edge) → ℕ → Way
way_from edges switch = record {
  wires = length (channels_from (length edges) edges switch) + 2;
  channels =
      channels_from (length edges) edges switch;
}

-- the route along one wire from an adapter to an adapter
abbrev pub one_wire : Way
one_wire = record { wires = 1; channels = [] }

-- the route, along `edges`, of a packet whose sender's wire leads to the given far end; the route along one wire if
-- the far end is not a switch
abbrev pub way_over : List (Option Edge) → Far → Way
way_over edges Nothing = one_wire
way_over edges (Switch index) = way_from edges index
way_over edges (Port e) = one_wire

-- `e` is an end port of an adapter; the end port of a switch is its port 0
abbrev pub is_adapter : EndPort → Bool
is_adapter e = not (e.port == 0)

-- `e` is an adapter port other than the port of `line`, and `arrives` holds
abbrev pub reaches_if : HeldLid → EndPort → Bool → Bool
reaches_if line e arrives = is_adapter e && not (is_same_end line.port e) && arrives

-- `e` is an adapter port other than the port of `line`, and `end` is a delivery at that port
abbrev pub reaches_by : HeldLid → EndPort → Option End → Bool
reaches_by line e end = reaches_if line e (is_at line.port end)

-- `e` is an adapter port other than the port of `line`, and its packet for the LID of `line` is delivered there
abbrev pub reaches : Cells → HeldPlan → HeldLid → EndPort → Bool
reaches cells held line e = reaches_by line e (end_for cells held line.lid e)

-- all packets that end ports send for the LID of `line` are delivered at the line's port
abbrev pub AllComeTo : Cells → HeldPlan → HeldLid → Type 0
AllComeTo cells held line =
    (e : EndPort) → Contains (end_ports cells) e → is_at line.port (end_for cells held line.lid e) ≡ true

-- for each line at whose index `told` is true, all packets that end ports send for the line's LID are delivered at the
-- line's port
abbrev pub AreKnownToArrive : Cells → HeldPlan → List Bool → Type 0
AreKnownToArrive cells held told = (index : ℕ) (line : HeldLid) → slice_get (lines_of held) index ≡ Some line
    → slice_index_or told index false ≡ true → AllComeTo cells held line

-- the route of the packet from `e` for the LID of `line`
abbrev pub way_of : Cells → HeldPlan → HeldLid → EndPort → Way
way_of cells held line e = way_over (edges_of cells held line.lid) (far_of cells e.node e.port)

-- the routes of the packets for the LID of `line` that other adapter ports send and that are delivered at the line's
-- port
abbrev pub ways_to : Cells → HeldPlan → HeldLid → List Way
ways_to cells held line = map (way_of cells held line) (filter (reaches cells held line) (end_ports cells))

-- `e` is an adapter port of the facts
abbrev pub is_target : Cells → EndPort → Bool
is_target cells e = is_adapter e && is_owner (end_ports cells) e

-- the routes of the packets that other adapter ports send for the LID of `line` and that are delivered at the line's
-- port; none if the line's port is not an adapter port of the facts
abbrev pub ways_for : Cells → HeldPlan → HeldLid → List Way
ways_for cells held line = if is_target cells line.port then ways_to cells held line else []

-- the routes of all delivered packets from an adapter port to a LID of another adapter port
abbrev pub ways_of : Cells → HeldPlan → List Way
ways_of cells held = flat_map (ways_for cells held) (lines_of held)

-- the number of wires of each route of `ways_of`
abbrev pub hops_of : Cells → HeldPlan → List ℕ
hops_of cells held = map (λ w. w.wires) (ways_of cells held)

-- the number of times that `way` takes `channel`
abbrev pub times_on : ℕ → Way → ℕ
times_on channel way = count_by (λ x. x == channel) way.channels

-- the number of times that the routes `ways`, together, take `channel`
abbrev pub load_of : List Way → ℕ → ℕ
load_of ways channel = sum_by (times_on channel) ways

-- the wire leads to a usable switch
abbrev pub is_to_switch : Far → Bool
is_to_switch Nothing = false
is_to_switch (Switch index) = true
is_to_switch (Port e) = false

-- the channels of the subnet: the ports of usable switches whose wires lead to usable switches
abbrev pub channels_of : Cells → List ℕ
channels_of cells = filter (λ n. is_to_switch (far_by cells n)) (range_with_len 0 (256 * length (switches cells)))

-- the load of each channel of the subnet: the number of times that the routes of all delivered packets from adapter
-- ports to others take it
abbrev pub loads_of : Cells → HeldPlan → List ℕ
loads_of cells held = map (load_of (ways_of cells held)) (channels_of cells)

-- `told` has the figures of the numbers of wires that routes take, and of the loads of channels
pub record AreWayFigures (cells : Cells) (held : HeldPlan) (told : WayFigures) : Type 0 where
  pub hops : told.hops ≡ figures_of (hops_of cells held)
  pub load : told.load ≡ figures_of (loads_of cells held)
