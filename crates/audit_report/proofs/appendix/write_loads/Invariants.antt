use Rattle.std.proofs.Common.{take, drop}
use Rattle.fact_store.specs.View.{cells_of}
use Rattle.byte_io.proofs.Writing.{HasWritten}
use Rattle.audit_report.specs.Appendix.{load_line}
use Rattle.audit_report.proofs.appendix.write_loads.Given as goal

-- the channels so far were written
abbrev pub invariant-loop-loaded : goal.invariant-loop-loaded
invariant-loop-loaded g l =
    HasWritten g.W.Sink.written g.W.Sink.has_failed (load_line (cells_of l.network.facts)) l.initial.sink l.sink
    (take l.loaded-index l.channels) (drop l.loaded-index l.channels) l.channels
