-- The packets that end ports send to the LIDs of their component, and where they end.
use Rattle.std.specs.Prelude.{Bool, true, false, ◌&&◌, not, List, [], Option, None, Some, filter, map, if◌then◌else◌}
use Rattle.std.specs.List.{flat_map}
use Rattle.subnet_view.specs.declared.end_port.EndPort.{EndPort}
use Rattle.subnet_view.specs.EndPort.{end_ports}
use Rattle.subnet_view.specs.Reading.{Cells}
use Rattle.held_tables.specs.declared.held.HeldLid.{HeldLid}
use Rattle.held_tables.specs.Held.{HeldPlan}
use Rattle.packet_walks.specs.declared.packet_end.End.{End}
use Rattle.packet_walks.specs.declared.packet_end.End.TheVariants.{Taken, Lost}
use Rattle.packet_walks.specs.HopsByTables.{end_for, is_at}
use Rattle.held_tables.specs.Tables.{is_owner, lines_of}
use Rattle.audit_counts.specs.declared.sent_packet.SentPacket.{SentPacket}
use Rattle.audit_counts.specs.Site.{are_adapters, in_one_component}

-- the packet from `e` for the LID of `line`
abbrev pub packet_of : Cells → HeldPlan → HeldLid → EndPort → SentPacket
packet_of cells held line e = record { line = line; source = e; end = end_for cells held line.lid e }

-- the packets for the LID of `line`, one from each end port in the component of the line's end port
abbrev pub sent_to : Cells → HeldPlan → HeldLid → List SentPacket
sent_to cells held line =
    map (packet_of cells held line) (filter (λ e. in_one_component cells e line.port) (end_ports cells))

-- the packets for the LID of `line` from the end ports in the component of the line's port; none if the line's port is
-- not an end port of the facts
abbrev pub packets_for : Cells → HeldPlan → HeldLid → List SentPacket
packets_for cells held line = if is_owner (end_ports cells) line.port then sent_to cells held line else []

-- for each line, the packets for the line's LID from the end ports in the component of the line's port
abbrev pub packets_of : Cells → HeldPlan → List SentPacket
packets_of cells held = flat_map (packets_for cells held) (lines_of held)

-- `packet` is delivered at the end port of its line
abbrev pub arrives : SentPacket → Bool
arrives packet = is_at packet.line.port packet.end

-- a packet with this end is lost at a node; false if the packet is taken at a port or loops forever
abbrev pub is_lost_end : Option End → Bool
is_lost_end None = false
is_lost_end (Some (Taken e)) = false
is_lost_end (Some (Lost g cause)) = true

-- `packet` is lost at a node
abbrev pub is_lost : SentPacket → Bool
is_lost packet = is_lost_end packet.end

-- a packet with this end is taken at a port; false if the packet is lost or loops forever
abbrev pub is_taken_end : Option End → Bool
is_taken_end None = false
is_taken_end (Some (Taken e)) = true
is_taken_end (Some (Lost g cause)) = false

-- a port takes `packet`, but this port is not the end port of the packet's line
abbrev pub is_misdelivered : SentPacket → Bool
is_misdelivered packet = is_taken_end packet.end && not (arrives packet)

-- a packet with this end loops forever (None)
abbrev pub is_no_end : Option End → Bool
is_no_end None = true
is_no_end (Some e) = false

-- `packet` loops forever
abbrev pub goes_round : SentPacket → Bool
goes_round packet = is_no_end packet.end

-- `packet` goes from an adapter port to the LID of an adapter port
abbrev pub is_between : SentPacket → Bool
is_between packet = are_adapters packet.source packet.line.port
