-- So far the newest generation is that of the cells given.
use Rattle.std.proofs.Common.{◌≡◌, ◌++◌}
use Rattle.page_list.specs.Iter.{rest_of}
use Rattle.fact_store.proofs.SightingRanges.{IsNewestAmong}
use Rattle.fact_store.proofs.store.Store.newest.Given as goal

abbrev pub invariant-loop-sighting : goal.invariant-loop-sighting
invariant-loop-sighting l = IsNewestAmong l.yielded l.newest × (l.yielded ++ rest_of l.sighting-iterator ≡ rest_of l.initial.sighting-iterator)
