use Rattle.std.proofs.Common.{take, drop}
use Rattle.byte_io.proofs.Writing.{HasWritten}
use Rattle.audit_report.specs.AuditText.{port_line}
use Rattle.audit_report.proofs.audit_text.write_each_port.Given as goal

-- the lines of the end ports so far were written
abbrev pub invariant-loop-port : goal.invariant-loop-port
invariant-loop-port g l =
    HasWritten g.W.Sink.written g.W.Sink.has_failed (port_line l.word) l.initial.sink l.sink (take l.port-index l.ports) (drop l.port-index l.ports) l.ports
