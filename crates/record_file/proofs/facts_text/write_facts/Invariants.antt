use Rattle.fact_store.specs.Iter.{cells_left}
use Rattle.byte_io.proofs.Writing.{HasWritten}
use Rattle.record_file.specs.FactsText.{line_text}
use Rattle.record_file.proofs.facts_text.write_facts.Given as goal

-- the lines of the cells given so far were written
abbrev pub invariant-loop-cell : goal.invariant-loop-cell
invariant-loop-cell g l =
    HasWritten g.W.Sink.written g.W.Sink.has_failed line_text l.initial.sink l.sink l.yielded (cells_left l.cell-iterator) (cells_left l.initial.cell-iterator)
