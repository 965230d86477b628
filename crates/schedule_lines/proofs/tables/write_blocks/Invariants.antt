use Rattle.schedule_lines.specs.Tables.{block_shown, blocks_to}
use Rattle.schedule_lines.proofs.Printing.{IsUnderWay}
use Rattle.schedule_lines.proofs.LinesFrom.{lines_from}
use Rattle.schedule_lines.proofs.tables.write_blocks.Given as goal

-- those from this one on are yet to be shown
abbrev pub invariant-loop-b : goal.invariant-loop-b
invariant-loop-b g l =
    IsUnderWay g.W.Sink.written g.W.Sink.has_failed l.initial.sink l.sink (lines_from (block_shown l.agent) (blocks_to l.agent.top) 0)
    (lines_from (block_shown l.agent) (blocks_to l.agent.top) l.b)
