-- All cells are counted, and those that have one value are taken away again.
use Rattle.std.proofs.Common.{ap, ◌∙◌, subst, arith, length}
use Rattle.fact_store.specs.View.{cells_of}
use Rattle.fact_store.specs.Iter.{cells_left}
use Rattle.audit_counts.specs.DisputedFacts.{disputed}
use Rattle.audit_counts.proofs.Disputes.{CountedTo}
use Rattle.audit_counts.proofs.disputed_facts.disputed.Goals as goal

pub loop-sighting-init : goal.loop-sighting-init
loop-sighting-init c =
    let left = ap cells_left c.into_iter-sighting-iterator.ensures.into_iter_gives ∙ c.cells-sighting-items.ensures.cells in
    omega (arith, c.count-count.ensures.exact, ap length left, ap disputed left)

pub returns : goal.returns
returns c =
    let all = disputed (cells_of c.args.store.now) in
    let counted = subst (λ rest. CountedTo c.loop-sighting.count rest all) c.in-None.ensures.steps.0 c.loop-sighting.invariant in
    omega (arith, counted)
