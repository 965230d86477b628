use Rattle.std.proofs.Common.{take, drop}
use Rattle.byte_io.proofs.Writing.{HasWritten}
use Rattle.lid_assign.specs.Lids.{rising_lids}
use Rattle.lft_blocks.specs.PlanText.{owner_line}
use Rattle.lft_blocks.proofs.plan_text.write_lids.Given as goal

-- the lines of the LIDs so far were written
abbrev pub invariant-loop-lid : goal.invariant-loop-lid
invariant-loop-lid g l =
    HasWritten g.W.Sink.written g.W.Sink.has_failed (owner_line l.lids) l.initial.sink l.sink (take l.lid-index l.lid-items) (drop l.lid-index l.lid-items)
    (rising_lids l.lids)
