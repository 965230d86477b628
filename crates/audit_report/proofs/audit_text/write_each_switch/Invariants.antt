use Rattle.std.proofs.Common.{take, drop}
use Rattle.byte_io.proofs.Writing.{HasWritten}
use Rattle.audit_report.specs.AuditText.{switch_line}
use Rattle.audit_report.proofs.audit_text.write_each_switch.Given as goal

-- the lines of the switches so far were written
abbrev pub invariant-loop-guid : goal.invariant-loop-guid
invariant-loop-guid g l =
    HasWritten g.W.Sink.written g.W.Sink.has_failed (switch_line l.word) l.initial.sink l.sink (take l.guid-index l.guids) (drop l.guid-index l.guids) l.guids
