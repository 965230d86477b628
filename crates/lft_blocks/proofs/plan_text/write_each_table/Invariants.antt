use Rattle.std.proofs.Common.{take, drop}
use Rattle.byte_io.proofs.Writing.{HasWritten}
use Rattle.lft_blocks.specs.PlanText.{table_text}
use Rattle.lft_blocks.proofs.plan_text.write_each_table.Given as goal

-- the switches so far were written
abbrev pub invariant-loop-table : goal.invariant-loop-table
invariant-loop-table g l =
    HasWritten g.W.Sink.written g.W.Sink.has_failed (table_text l.top) l.initial.sink l.sink (take l.table-index l.tables) (drop l.table-index l.tables)
    l.tables
