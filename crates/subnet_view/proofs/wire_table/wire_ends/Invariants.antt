use Rattle.fact_store.specs.Iter.{cells_left}
use Rattle.subnet_view.proofs.EndsInStep.{IsWalked}
use Rattle.subnet_view.proofs.wire_table.wire_ends.Given as goal

-- what was found in the cells that were given, with what is left
abbrev pub invariant-loop-sighting : goal.invariant-loop-sighting
invariant-loop-sighting l = IsWalked l.store l.ends.items l.yielded (cells_left l.sighting-iterator) l.reader
