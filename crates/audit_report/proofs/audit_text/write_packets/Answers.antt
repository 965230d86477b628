-- A line more.
use Rattle.fact_store.specs.View.{cells_of}
use Rattle.audit_report.specs.AuditText.{packet_line}
use Rattle.byte_io.proofs.Writing.{written_next, wrote}
use Rattle.audit_report.proofs.audit_text.write_packets.Goals as goal

pub loop-packet-preserved : goal.loop-packet-preserved
loop-packet-preserved g c =
    written_next g.W.Sink.written g.W.Sink.has_failed (packet_line (cells_of c.args.network.now.facts) c.args.network.now.held c.args.word.now) _ _ _
    c.args.packets.now _ c.loop-packet.packet-index
    c.packet-item.result c.loop-packet.invariant c.loop-packet-test.true c.packet-item.is
    (wrote g.W.Sink.written g.W.Sink.has_failed _ _ _ _ c.in_ok-write_packet.ensures)
