use Rattle.std.proofs.Common.{take, drop}
use Rattle.fact_store.specs.View.{cells_of}
use Rattle.byte_io.proofs.Writing.{HasWritten}
use Rattle.audit_channels.specs.CycleText.{exit_text}
use Rattle.audit_report.proofs.appendix.write_channels.Given as goal

-- the channels so far were written
abbrev pub invariant-loop-channel : goal.invariant-loop-channel
invariant-loop-channel g l =
    HasWritten g.W.Sink.written g.W.Sink.has_failed (exit_text (cells_of l.network.facts)) l.initial.sink l.sink
    (take l.channel-index l.channels) (drop l.channel-index l.channels) l.channels
