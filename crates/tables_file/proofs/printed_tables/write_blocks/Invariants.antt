use Rattle.std.proofs.Common.{take, drop}
use Rattle.byte_io.proofs.Writing.{HasWritten}
use Rattle.tables_file.specs.PrintedTables.{block_text}
use Rattle.tables_file.proofs.printed_tables.write_blocks.Given as goal

-- the lines of the blocks so far were written
abbrev pub invariant-loop-block : goal.invariant-loop-block
invariant-loop-block g l =
    HasWritten g.W.Sink.written g.W.Sink.has_failed block_text l.initial.sink l.sink (take l.block-index l.blocks) (drop l.block-index l.blocks) l.blocks
