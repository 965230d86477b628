use Rattle.std.proofs.Common.{take, drop}
use Rattle.byte_io.proofs.Writing.{HasWritten}
use Rattle.schedule_lines.specs.Tables.{held_line}
use Rattle.schedule_lines.proofs.tables.write_held.Given as goal

-- the lines of the LIDs so far were written
abbrev pub invariant-loop-lid : goal.invariant-loop-lid
invariant-loop-lid g l =
    HasWritten g.W.Sink.written g.W.Sink.has_failed held_line l.initial.sink l.sink (take l.lid-index l.lids) (drop l.lid-index l.lids) l.lids
