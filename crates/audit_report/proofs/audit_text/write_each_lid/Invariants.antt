use Rattle.std.proofs.Common.{take, drop}
use Rattle.byte_io.proofs.Writing.{HasWritten}
use Rattle.audit_report.specs.AuditText.{lid_line}
use Rattle.audit_report.proofs.audit_text.write_each_lid.Given as goal

-- the lines of the LIDs so far were written
abbrev pub invariant-loop-line : goal.invariant-loop-line
invariant-loop-line g l =
    HasWritten g.W.Sink.written g.W.Sink.has_failed (lid_line l.word) l.initial.sink l.sink (take l.line-index l.lines) (drop l.line-index l.lines) l.lines
