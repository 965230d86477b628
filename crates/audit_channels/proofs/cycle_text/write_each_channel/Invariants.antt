use Rattle.std.proofs.Common.{take, drop}
use Rattle.byte_io.proofs.Writing.{HasWritten}
use Rattle.fact_store.specs.View.{cells_of}
use Rattle.audit_channels.specs.CycleText.{channel_text}
use Rattle.audit_channels.proofs.cycle_text.write_each_channel.Given as goal

-- the channels so far were written
abbrev pub invariant-loop-channel : goal.invariant-loop-channel
invariant-loop-channel g l =
    HasWritten g.W.Sink.written g.W.Sink.has_failed (channel_text (cells_of l.network.facts) l.kind) l.initial.sink l.sink
    (take l.channel-index l.channels) (drop l.channel-index l.channels) l.channels
