use Rattle.std.proofs.Common.{◌+◌, List, sym, subst, arith, get_or}
use Rattle.std.proofs.lemmas.List.{with_items_is, get_or_default}
use Rattle.spread_labels.specs.declared.distance_class.DistanceSum.{DistanceSum}
use Rattle.spread_labels.specs.DistanceClass.{AreWithDistances}
use Rattle.spread_labels.proofs.DistanceSums.{distance_sums_more, BecomeDistanceSums}
use Rattle.spread_labels.proofs.distance_class.distance_sums.Goals as goal

pub loop-from-preserved : goal.loop-from-preserved
loop-from-preserved c =
    let i = c.loop-from.from-index in
    let old = c.loop-from.distance_sums in
    let new = c.add_distances.new.distance_sums in
    let with_distance : AreWithDistances old.items new c.in_ok-distances.distances.items =
    subst (AreWithDistances old.items new) c.deref.ensures.value
    (subst (λ (ts : List DistanceSum). AreWithDistances ts new c.deref.result.now) c.deref_mut.ensures.value c.add_distances.ensures) in
    subst (BecomeDistanceSums c.args.edges.now c.args.some.now (i + 1)) (sym (with_items_is old new (omega (arith, with_distance.all))))
    (distance_sums_more c.args.edges.now c.args.some.now i (get_or c.args.some.now i 0) old.items new c.in_ok-distances.distances.items
    (omega (arith, c.loop-from-test.true)) (get_or_default c.args.some.now i 0 (get_or c.args.some.now i 0) (omega (arith, c.loop-from-test.true)))
    (omega (arith, c.len.ensures)) c.in_ok-distances.ensures with_distance c.loop-from.invariant)
