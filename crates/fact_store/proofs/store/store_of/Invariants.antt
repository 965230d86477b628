-- Those so far are put in.
use Rattle.std.proofs.Common.{◌≡◌, take}
use Rattle.fact_store.specs.Merge.{merge}
use Rattle.fact_store.specs.View.{no_facts, raised, view}
use Rattle.fact_store.proofs.store.store_of.Given as goal

abbrev pub invariant-loop-sighting : goal.invariant-loop-sighting
invariant-loop-sighting l = l.store ≡ merge (raised no_facts l.fn.floor) (view (take l.sighting-index l.sightings))
