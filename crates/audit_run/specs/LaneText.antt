-- What an audit finds by lane, as text.
use Rattle.std.specs.Prelude.{ℕ, ◌/◌, ◌%◌, List, [], ◌∷◌, ◌++◌, Option, None, Some, codes, decimal}
use Rattle.std.specs.List.{flat_map}
use Rattle.smp_bytes.specs.Text.{guid_text, port_text}
use Rattle.subnet_view.specs.Reading.{Cells}
use Rattle.audit_counts.specs.FirstFew.{Listed, more_of}
use Rattle.audit_channels.specs.declared.cycle_text.ChannelKind.TheVariants.{ByLane}
use Rattle.audit_report.specs.AuditText.{more_line}
use Rattle.audit_channels.specs.CycleText.{cycle_line}
use Rattle.lane_channels.specs.declared.dropped.Dropped.{Dropped}
use Rattle.lane_channels.specs.declared.loops_by_lane.LaneOrder.{LaneOrder}
use Rattle.lane_channels.specs.Stops.{guid_at}
use Rattle.audit_run.specs.declared.lane_findings.LaneFindings.{LaneFindings}
use Rattle.audit_run.specs.declared.levels_missing.PacketPair.{PacketPair}

-- the line of text for a packet without a service level: the end port that sends it, and its LID
abbrev pub pair_line : PacketPair → List ℕ
pair_line pair =
    codes "no-level " ++ port_text pair.source.node pair.source.port ++ codes " " ++ decimal pair.lid ++ codes "\n"

-- the lines of the first packets without a service level, and how many more there are
abbrev pub missing_text : Listed PacketPair → List ℕ
missing_text few = flat_map pair_line few.first ++ more_line (codes "no-level") (more_of few)

-- the line of a dropped packet: `lead`, its LID, the switch, the ports by which the packet comes in and would leave,
-- and its service level
abbrev pub drop_line : Cells → List ℕ → Dropped → List ℕ
drop_line cells lead d =
    lead ++ codes "dropped " ++ decimal d.lid ++ codes " at " ++ guid_text (guid_at cells (d.stop / 256)) ++ codes " "
    ++ decimal (d.stop % 256) ++ codes " " ++ decimal d.out ++ codes " level " ++ decimal d.level ++ codes "\n"

-- if a packet is dropped, its line, which begins with `lead`; empty for None
abbrev pub dropped_text : Cells → List ℕ → Option Dropped → List ℕ
dropped_text cells lead None = []
dropped_text cells lead (Some d) = drop_line cells lead d

-- a dropped packet if there is one, and the credit loop, or that there is none, as lines that begin with `lead`
abbrev pub order_text : Cells → List ℕ → LaneOrder → List ℕ
order_text cells lead order =
    dropped_text cells lead order.dropped ++ lead ++ cycle_line cells ByLane order.cycle.items

-- the findings by lane, as lines: the first packets without a service level and how many more there are; a dropped
-- packet if there is one, and the credit loop, or that there is none; and the same for answers
abbrev pub lanes_text : Cells → LaneFindings → List ℕ
lanes_text cells found =
    missing_text found.missing ++ order_text cells (codes "") found.order
    ++ order_text cells (codes "answers ") found.answers
