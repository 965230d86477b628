-- A line more.
use Rattle.audit_report.specs.AuditText.{lid_line}
use Rattle.byte_io.proofs.Writing.{written_next, wrote}
use Rattle.audit_report.proofs.audit_text.write_each_lid.Goals as goal

pub loop-line-preserved : goal.loop-line-preserved
loop-line-preserved g c =
    written_next g.W.Sink.written g.W.Sink.has_failed (lid_line c.args.word.now) _ _ _ c.args.lines.now _ c.loop-line.line-index c.line-item.result
    c.loop-line.invariant c.loop-line-test.true c.line-item.is
    (wrote g.W.Sink.written g.W.Sink.has_failed _ _ _ _ c.in_ok-write_lid.ensures)
