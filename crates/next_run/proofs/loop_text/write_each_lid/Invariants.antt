use Rattle.std.proofs.Common.{take, drop}
use Rattle.byte_io.proofs.Writing.{HasWritten}
use Rattle.next_run.specs.LoopText.{lid_word}
use Rattle.next_run.proofs.loop_text.write_each_lid.Given as goal

-- the LIDs so far were written
abbrev pub invariant-loop-lid : goal.invariant-loop-lid
invariant-loop-lid g l =
    HasWritten g.W.Sink.written g.W.Sink.has_failed lid_word l.initial.sink l.sink (take l.lid-index l.lids) (drop l.lid-index l.lids) l.lids
