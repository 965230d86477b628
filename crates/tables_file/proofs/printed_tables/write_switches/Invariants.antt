use Rattle.std.proofs.Common.{drop}
use Rattle.tables_file.specs.PrintedTables.{switches_text}
use Rattle.byte_io.proofs.Writing.{IsPartWritten}
use Rattle.tables_file.proofs.printed_tables.write_switches.Given as goal

-- the switches so far were written, and the others are left with the blocks that are left
abbrev pub invariant-loop-index : goal.invariant-loop-index
invariant-loop-index g l =
    IsPartWritten g.W.Sink.written g.W.Sink.has_failed l.initial.sink l.sink (switches_text l.index (drop l.index l.switches) l.rest)
    (switches_text 0 l.switches l.fn.blocks)
