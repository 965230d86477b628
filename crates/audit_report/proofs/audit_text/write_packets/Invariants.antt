use Rattle.std.proofs.Common.{take, drop}
use Rattle.fact_store.specs.View.{cells_of}
use Rattle.byte_io.proofs.Writing.{HasWritten}
use Rattle.audit_report.specs.AuditText.{packet_line}
use Rattle.audit_report.proofs.audit_text.write_packets.Given as goal

-- the lines of the packets so far were written
abbrev pub invariant-loop-packet : goal.invariant-loop-packet
invariant-loop-packet g l =
    HasWritten g.W.Sink.written g.W.Sink.has_failed (packet_line (cells_of l.network.facts) l.network.held l.word) l.initial.sink l.sink
    (take l.packet-index l.packets) (drop l.packet-index l.packets) l.packets
