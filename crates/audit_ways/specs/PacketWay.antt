-- The way of one packet, channel by channel.
use Rattle.std.specs.Prelude.{ℕ, Bool, List, [], Option, None, Some, find, length, option_map, if◌then◌else◌}
use Rattle.std.specs.Option.{option_map_or}
use Rattle.port_graph.specs.declared.edge.Edge.{Edge}
use Rattle.subnet_view.specs.declared.end_port.EndPort.{EndPort}
use Rattle.subnet_view.specs.EndPort.{end_ports}
use Rattle.subnet_view.specs.Reading.{Cells}
use Rattle.held_tables.specs.Held.{HeldPlan}
use Rattle.held_tables.specs.declared.senders.Sender.{Sender}
use Rattle.held_tables.specs.Switches.{sender_of, switch_over}
use Rattle.held_tables.specs.Tables.{is_owner, is_same_end, owners_of}
use Rattle.packet_walks.specs.declared.packet_end.End.{End}
use Rattle.packet_walks.specs.Edges.{edges_of}
use Rattle.packet_walks.specs.HopsByTables.{end_for}
use Rattle.audit_ways.specs.declared.packet_way.PacketWay.{PacketWay}
use Rattle.audit_ways.specs.Ways.{channels_from}

-- the channels that a packet takes, one after the other, and where it ends; None if it loops forever
pub record PacketWayValue : Type 0 where
  pub channels : List ℕ
  pub end : Option End

-- the code's way of a packet as a value
abbrev pub way_value : PacketWay → PacketWayValue
way_value way = record { channels = way.channels.items; end = way.end }

-- the port of `source` is `e`
abbrev pub is_port : EndPort → Sender → Bool
is_port e source = is_same_end e source.port

-- the usable switch, by index, that a packet reaches first if its sender is not the usable switch at the given index:
-- none if the sender is an owner of the packet's LID, since the packet stays there
abbrev pub first_after : Bool → Option ℕ → Option ℕ → Option ℕ
first_after owns (Some index) over = Some index
first_after owns None over = if owns then None else over

-- the usable switch, by index, that a packet of `source` for a LID of `owners` reaches first: the sender itself, or
-- the switch to which its wire leads. None if the sender is no switch and holds the LID, or if its wire leads to no
-- usable switch
abbrev pub first_switch_for : List EndPort → Sender → Option ℕ
first_switch_for owners source = first_after (is_owner owners source.port) source.switch (switch_over source.far)

-- the channels that a packet takes along `edges` after it has reached the given switch; none if it reaches no switch
abbrev pub channels_after : List (Option Edge) → Option ℕ → List ℕ
channels_after edges first = option_map_or (channels_from (length edges) edges) first []

-- the channels that the packet from `e` for `lid` takes
abbrev pub way_channels : Cells → HeldPlan → ℕ → EndPort → List ℕ
way_channels cells held lid e =
    channels_after (edges_of cells held lid) (first_switch_for (owners_of held lid) (sender_of cells e))

-- the way of the packet from `e` for `lid`
abbrev pub way_from_port : Cells → HeldPlan → ℕ → EndPort → PacketWayValue
way_from_port cells held lid e = record { channels = way_channels cells held lid e; end = end_for cells held lid e }

-- the way of the packet that the end port with the given node and port sends for `lid`; None if the facts have no such
-- end port
abbrev pub packet_way : Cells → HeldPlan → ℕ → ℕ → ℕ → Option PacketWayValue
packet_way cells held node port lid =
    option_map (way_from_port cells held lid) (find (is_same_end (record { node = node; port = port })) (end_ports cells))
