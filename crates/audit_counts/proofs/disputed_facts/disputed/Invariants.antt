use Rattle.fact_store.specs.View.{cells_of}
use Rattle.fact_store.specs.Iter.{cells_left}
use Rattle.audit_counts.specs.DisputedFacts.{disputed}
use Rattle.audit_counts.proofs.Disputes.{CountedTo}
use Rattle.audit_counts.proofs.disputed_facts.disputed.Given as goal

-- counted so far
abbrev pub invariant-loop-sighting : goal.invariant-loop-sighting
invariant-loop-sighting l = CountedTo l.count (cells_left l.sighting-iterator) (disputed (cells_of l.store))
