use Rattle.fact_store.specs.Iter.{cells_left}
use Rattle.record_file.specs.CellRecord.{record_bytes}
use Rattle.byte_io.proofs.Writing.{HasWritten}
use Rattle.record_file.proofs.store_file.write_store.Given as goal

-- the records of the cells given so far stand behind what was written before
abbrev pub invariant-loop-cell : goal.invariant-loop-cell
invariant-loop-cell g l =
    HasWritten g.W.Sink.written g.W.Sink.has_failed record_bytes l.initial.sink l.sink l.yielded (cells_left l.cell-iterator)
    (cells_left l.initial.cell-iterator)
