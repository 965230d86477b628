use Rattle.std.proofs.Common.{take, drop}
use Rattle.std.specs.List.{enumerate_from}
use Rattle.byte_io.proofs.Writing.{HasWritten}
use Rattle.lft_blocks.specs.PlanText.{block_line}
use Rattle.lft_blocks.proofs.plan_text.write_blocks.Given as goal

-- the lines of the blocks so far were written
abbrev pub invariant-loop-b : goal.invariant-loop-b
invariant-loop-b g l =
    HasWritten g.W.Sink.written g.W.Sink.has_failed block_line l.initial.sink l.sink (take l.b (enumerate_from 0 l.blocks))
    (drop l.b (enumerate_from 0 l.blocks)) (enumerate_from 0 l.blocks)
