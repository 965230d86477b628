-- An audit as text.
use Rattle.std.specs.Prelude.{ℕ, ◌-◌, ◌/◌, ◌%◌, ◌==◌, not, List, [], ◌∷◌, ◌++◌, Option, None, Some, codes, count_by, decimal, filter, length, nat_lt}
use Rattle.std.specs.Prelude.{if◌then◌else◌}
use Rattle.std.specs.Option.{option_map_or}
use Rattle.std.specs.List.{flat_map}
use Rattle.smp_bytes.specs.Text.{guid_text, port_text}
use Rattle.subnet_view.specs.declared.end_port.EndPort.{EndPort}
use Rattle.subnet_view.specs.Reading.{Cells}
use Rattle.held_tables.specs.declared.held.HeldLid.{HeldLid}
use Rattle.held_tables.specs.Held.{HeldPlan}
use Rattle.packet_walks.specs.declared.cause.Cause.{Cause}
use Rattle.packet_walks.specs.declared.cause.Cause.TheVariants.{AboveTop, NoEntry, NoPort, NoLink, Foreign}
use Rattle.packet_walks.specs.declared.packet_end.End.{End}
use Rattle.packet_walks.specs.declared.packet_end.End.TheVariants.{Taken, Lost}
use Rattle.packet_walks.specs.HopsByTables.{entry_by}
use Rattle.audit_counts.specs.Figures.{figures_of}
use Rattle.audit_counts.specs.FiguresType.{Figures}
use Rattle.audit_counts.specs.Ways.{hops_of, loads_of}
use Rattle.audit_counts.specs.declared.sent_packet.SentPacket.{SentPacket}
use Rattle.audit_counts.specs.declared.cause_counts.Causes.{Causes}
use Rattle.audit_counts.specs.declared.pairs.Pairs.{Pairs}
use Rattle.audit_counts.specs.declared.packet_tally.PacketTally.{PacketTally}
use Rattle.audit_counts.specs.declared.unmatched.Unmatched.{Unmatched}
use Rattle.audit_counts.specs.CauseCounts.{causes_of}
use Rattle.audit_counts.specs.DisputedFacts.{disputed}
use Rattle.audit_counts.specs.Packets.{arrives, goes_round, is_between, is_lost, is_misdelivered, packets_of}
use Rattle.audit_counts.specs.FirstFew.{Listed, listed_of, more_of}
use Rattle.audit_counts.specs.Unmatched.{lidless, tableless, twice, unjoined, unknown, unowned, unusable}

-- a line of counts: `words`, how many packets were sent, and how many arrived
abbrev pub counts_line : List ℕ → ℕ → ℕ → List ℕ
counts_line words sent arrived =
    words ++ codes "pairs " ++ decimal sent ++ codes " arrive " ++ decimal arrived ++ codes "\n"

-- the counts of all packets, of those between adapter ports, and of the others, which have a switch at one end at
-- least
abbrev pub pairs_text : Pairs → Pairs → List ℕ
pairs_text all between =
    counts_line (codes "") all.sent all.arrived ++ counts_line (codes "between adapters ") between.sent between.arrived
    ++ counts_line (codes "with a switch ") (all.sent - between.sent) (all.arrived - between.arrived)

-- a space, `word`, a space and `count`
abbrev pub count_text : List ℕ → ℕ → List ℕ
count_text word count = codes " " ++ word ++ codes " " ++ decimal count

-- the numbers of packets that are lost, for each cause
abbrev pub causes_text : Causes → List ℕ
causes_text causes =
    count_text (codes "above-top") causes.above_top ++ count_text (codes "no-entry") causes.no_entry
    ++ count_text (codes "no-port") causes.no_port
    ++ count_text (codes "no-link") causes.no_link ++ count_text (codes "foreign") causes.foreign

-- the number of packets that are delivered at a port other than that of their LID, and the number of those that loop
abbrev pub others_text : ℕ → ℕ → List ℕ
others_text misdelivered round = count_text (codes "misdelivered") misdelivered ++ count_text (codes "round") round

-- the line of the packets that do not arrive: how many are lost for each cause, are misdelivered, and loop
abbrev pub missed_line : Causes → ℕ → ℕ → List ℕ
missed_line causes misdelivered round =
    codes "missed" ++ causes_text causes ++ others_text misdelivered round ++ codes "\n"

-- if the node at which a packet is lost is a usable switch, the switch's entry for the packet; empty for None, since
-- the node is not a usable switch
abbrev pub entry_text : Option ℕ → List ℕ
entry_text entry = option_map_or (λ port. codes " by " ++ decimal port) entry []

-- the port that takes a packet
abbrev pub taken_text : EndPort → List ℕ
taken_text e = codes " at " ++ port_text e.node e.port

-- the cause for which a packet is lost, in words after a colon
abbrev pub cause_text : Cause → List ℕ
cause_text AboveTop = codes ": above top"
cause_text NoEntry = codes ": no entry"
cause_text NoPort = codes ": no such port"
cause_text NoLink = codes ": no link"
cause_text Foreign = codes ": foreign port"

-- the node at which a packet for `lid` is lost, the node's entry, and the cause
abbrev pub lost_text : Cells → HeldPlan → ℕ → ℕ → Cause → List ℕ
lost_text cells held lid g cause =
    codes " at " ++ guid_text g ++ entry_text (entry_by cells held g lid) ++ cause_text cause

-- the end of a packet for `lid`; empty for None, since the packet loops
abbrev pub end_text : Cells → HeldPlan → ℕ → Option End → List ℕ
end_text cells held lid None = []
end_text cells held lid (Some (Taken e)) = taken_text e
end_text cells held lid (Some (Lost g cause)) = lost_text cells held lid g cause

-- `word`, the end port that sends the packet, and the packet's LID
abbrev pub sent_text : List ℕ → SentPacket → List ℕ
sent_text word packet =
    word ++ codes " " ++ port_text packet.source.node packet.source.port ++ codes " " ++ decimal packet.line.lid

-- the line of a packet: `word`, the packet's sender and LID, and where the packet ends
abbrev pub packet_line : Cells → HeldPlan → List ℕ → SentPacket → List ℕ
packet_line cells held word packet =
    sent_text word packet ++ end_text cells held packet.line.lid packet.end ++ codes "\n"

-- a line for each packet: `word`, the packet's sender and LID, and where the packet ends
abbrev pub packets_text : Cells → HeldPlan → List ℕ → List SentPacket → List ℕ
packets_text cells held word packets = flat_map (packet_line cells held word) packets

-- the line that says how many items of the kind `word` are not listed; empty for 0
abbrev pub more_line : List ℕ → ℕ → List ℕ
more_line word count = if nat_lt 0 count then codes "more " ++ word ++ codes " " ++ decimal count ++ codes "\n" else []

-- a line for each listed item of the kind `word`, and how many more there are
abbrev pub kind_text : {X : Type 0} → (List ℕ → X → List ℕ) → List ℕ → Listed X → List ℕ
kind_text line word listed = flat_map (line word) listed.first ++ more_line word (more_of listed)

-- the first packets of the kind `word`, and how many more there are
abbrev pub listed_text : Cells → HeldPlan → List ℕ → Listed SentPacket → List ℕ
listed_text cells held word listed = kind_text (packet_line cells held) word listed

-- the line of a LID: `word`, the LID, and the end port that holds it
abbrev pub lid_line : List ℕ → HeldLid → List ℕ
lid_line word line =
    word ++ codes " " ++ decimal line.lid ++ codes " " ++ port_text line.port.node line.port.port ++ codes "\n"

-- the line of a node: `word` and the GUID
abbrev pub switch_line : List ℕ → ℕ → List ℕ
switch_line word guid = word ++ codes " " ++ guid_text guid ++ codes "\n"

-- the line of a port: `word`, the node and the port
abbrev pub port_line : List ℕ → EndPort → List ℕ
port_line word e = word ++ codes " " ++ port_text e.node e.port ++ codes "\n"

-- `n` hundredths as a decimal number with two digits after the point
abbrev pub hundredths_text : ℕ → List ℕ
hundredths_text n = decimal (n / 100) ++ codes "." ++ decimal (n / 10 % 10) ++ decimal (n % 10)

-- the greatest number and the mean; `none` if there are no numbers
abbrev pub figures_text : Option Figures → List ℕ
figures_text None = codes " none"
figures_text (Some figures) =
    codes " max " ++ decimal figures.most ++ codes " mean " ++ hundredths_text figures.hundredths

-- a line of figures: `word`, the greatest number and the mean
abbrev pub figures_line : List ℕ → Option Figures → List ℕ
figures_line word figures = word ++ figures_text figures ++ codes "\n"

-- the figures of the wires that packets between adapter ports take, and of the loads of channels
abbrev pub ways_text : Option Figures → Option Figures → List ℕ
ways_text hops load = figures_line (codes "hops") hops ++ figures_line (codes "load") load

-- the first packets that are lost, that are misdelivered and that loop, and how many more of each kind there are
abbrev pub missed_text : Cells → HeldPlan → Listed SentPacket → Listed SentPacket → Listed SentPacket → List ℕ
missed_text cells held lost misdelivered round =
    listed_text cells held (codes "lost") lost ++ listed_text cells held (codes "misdelivered") misdelivered
    ++ listed_text cells held (codes "round") round

-- the counts of packets, and the first of each kind of those that do not arrive
abbrev pub tally_text : Cells → HeldPlan → PacketTally → List ℕ
tally_text cells held tally =
    pairs_text tally.all tally.between ++ missed_line tally.causes tally.misdelivered.count tally.round.count
    ++ missed_text cells held tally.lost tally.misdelivered tally.round

-- the lines of differences between tables and facts, and of gaps in the facts
abbrev pub unmatched_text : Unmatched → List ℕ
unmatched_text found =
    kind_text lid_line (codes "unowned") found.unowned ++ kind_text lid_line (codes "twice") found.twice
    ++ kind_text switch_line (codes "unknown") found.unknown
    ++ kind_text switch_line (codes "tableless") found.tableless
    ++ kind_text switch_line (codes "unusable") found.unusable
    ++ kind_text port_line (codes "lidless") found.lidless
    ++ kind_text port_line (codes "unjoined") found.unjoined

-- the line of how many facts are disputed; empty for 0
abbrev pub disputed_line : ℕ → List ℕ
disputed_line count = if count == 0 then [] else codes "disputed " ++ decimal count ++ codes "\n"

-- the line of `words`, how many `packets` there are, and how many of them arrive
abbrev pub counts_told : List ℕ → List SentPacket → List ℕ
counts_told words packets = counts_line words (length packets) (count_by arrives packets)

-- the counts of all `packets`, of those between adapter ports, and of those with a switch at one end at least
abbrev pub pairs_told : List SentPacket → List ℕ
pairs_told packets =
    counts_told (codes "") packets ++ counts_told (codes "between adapters ") (filter is_between packets)
    ++ counts_told (codes "with a switch ") (filter (λ packet. not (is_between packet)) packets)

-- the lines of `packets`: how many arrive, how many of each kind do not, and the first `most` of each kind
abbrev pub packets_told : ℕ → Cells → HeldPlan → List SentPacket → List ℕ
packets_told most cells held packets =
    pairs_told packets
    ++ missed_line (causes_of packets) (count_by is_misdelivered packets) (count_by goes_round packets)
    ++ missed_text cells held (listed_of most is_lost packets) (listed_of most is_misdelivered packets)
    (listed_of most goes_round packets)

-- the first `most` of each kind of difference between tables and facts, and of gap in the facts, as lines
abbrev pub unmatched_told : ℕ → Cells → HeldPlan → List ℕ
unmatched_told most cells held =
    kind_text lid_line (codes "unowned") (unowned most cells held) ++ kind_text lid_line (codes "twice") (twice most held)
    ++ kind_text switch_line (codes "unknown") (unknown most cells held)
    ++ kind_text switch_line (codes "tableless") (tableless most cells held)
    ++ kind_text switch_line (codes "unusable") (unusable most cells)
    ++ kind_text port_line (codes "lidless") (lidless most cells held)
    ++ kind_text port_line (codes "unjoined") (unjoined most cells)

-- the figures of how many wires packets between adapter ports take, and of how often they take each channel, as lines
abbrev pub ways_told : Cells → HeldPlan → List ℕ
ways_told cells held = ways_text (figures_of (hops_of cells held)) (figures_of (loads_of cells held))

-- the text of an audit without its credit loop: packets, differences between tables and facts, disputed facts, routes
-- and loads
unfoldable pub findings_text : ℕ → Cells → HeldPlan → List ℕ
findings_text most cells held =
    packets_told most cells held (packets_of cells held) ++ unmatched_told most cells held ++ disputed_line (disputed cells)
    ++ ways_told cells held
