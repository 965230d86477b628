-- The lines that follow an audit if they are asked for: the load of each channel, and the way of one packet.
use Rattle.std.specs.Prelude.{ℕ, List, [], ◌++◌, Option, None, Some, codes, decimal, if◌then◌else◌, option_map}
use Rattle.std.specs.List.{flat_map}
use Rattle.std.specs.Option.{option_map_or}
use Rattle.smp_bytes.specs.Text.{port_text}
use Rattle.subnet_view.specs.Reading.{Cells}
use Rattle.held_tables.specs.Held.{HeldPlan}
use Rattle.packet_walks.specs.declared.packet_end.End.{End}
use Rattle.packet_walks.specs.declared.packet_end.End.TheVariants.{Taken, Lost}
use Rattle.audit_channels.specs.CycleText.{exit_text}
use Rattle.audit_counts.specs.ChannelList.{loaded_channels}
use Rattle.audit_counts.specs.LoadedChannel.{LoadedChannel}
use Rattle.audit_counts.specs.PacketWay.{PacketWayValue, packet_way, way_value}
use Rattle.audit_report.specs.AuditText.{end_text}
use Rattle.audit_report.specs.declared.appendix.Appendix.{Appendix}
use Rattle.audit_report.specs.declared.appendix.WayFound.{WayFound}
use Rattle.sm_cli.specs.declared.audit_asked.AuditAsked.{AuditAsked}
use Rattle.sm_cli.specs.declared.audit_asked.WayAsked.{WayAsked}

-- the line of a channel: its switch, its outgoing port and its load
abbrev pub load_line : Cells → LoadedChannel → List ℕ
load_line cells loaded =
    codes "channel" ++ exit_text cells loaded.channel ++ codes " load " ++ decimal loaded.load ++ codes "\n"

-- how a packet ends, in a word after a space: it loops, is taken by a port, or is lost
abbrev pub end_word : Option End → List ℕ
end_word None = codes " round"
end_word (Some (Taken e)) = codes " taken"
end_word (Some (Lost g cause)) = codes " lost"

-- the channels that a packet for `lid` takes, how it ends, and where
abbrev pub way_end : Cells → HeldPlan → ℕ → PacketWayValue → List ℕ
way_end cells held lid way =
    flat_map (exit_text cells) way.channels ++ end_word way.end ++ end_text cells held lid way.end

-- the way of a packet for `lid`; for None it says that the sender is no end port of the facts
abbrev pub way_tail : Cells → HeldPlan → ℕ → Option PacketWayValue → List ℕ
way_tail cells held lid way = option_map_or (way_end cells held lid) way (codes ": no end port")

-- who sends a packet, and its LID
abbrev pub way_head : WayAsked → List ℕ
way_head asked = codes "way " ++ port_text asked.node asked.port ++ codes " " ++ decimal asked.lid

-- the line of the packet `asked`, which goes the given way
abbrev pub way_line : Cells → HeldPlan → WayAsked → Option PacketWayValue → List ℕ
way_line cells held asked way = way_head asked ++ way_tail cells held asked.lid way ++ codes "\n"

-- the line of the packet `asked`
abbrev pub way_text : Cells → HeldPlan → WayAsked → List ℕ
way_text cells held asked = way_line cells held asked (packet_way cells held asked.node asked.port asked.lid)

-- the line of a packet whose way was found
abbrev pub found_text : Cells → HeldPlan → WayFound → List ℕ
found_text cells held found = way_line cells held found.asked (option_map way_value found.way)

-- the lines of what was found: channels with their loads, and a packet with its way
abbrev pub shown : Cells → HeldPlan → Appendix → List ℕ
shown cells held appendix =
    flat_map (load_line cells) appendix.loads.items ++ option_map_or (found_text cells held) appendix.way []

-- the lines that `asked` asks for after an audit: each channel with its load, and the way of a packet
abbrev pub appendix_text : AuditAsked → Cells → HeldPlan → List ℕ
appendix_text asked cells held =
    flat_map (load_line cells) (if asked.loads then loaded_channels cells held else [])
    ++ option_map_or (way_text cells held) asked.way []
