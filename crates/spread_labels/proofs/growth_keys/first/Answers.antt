use Rattle.std.proofs.Common.{◌<◌, ℕ, sym, ap, ◌∙◌, subst, length}
use Rattle.std.specs.Prelude.{None, Some, is_some, slice_index_or}
use Rattle.spread_labels.specs.KeyOrder.{before_by}
use Rattle.spread_labels.specs.Growth.{earlier_of}
use Rattle.spread_labels.proofs.Earlier.{IsBelow, earlier_below, earliest_passing, earliest_failing}
use Rattle.spread_labels.proofs.growth_keys.first.Goals as goal
use Rattle.spread_labels.proofs.growth_keys.first.Goals.{then-is_some, else-is_some}

pub loop-vertex-preserved : goal.loop-vertex-preserved
loop-vertex-preserved c =
    let before = before_by c.args.keys.now in
    let test = λ (a : ℕ). is_some (slice_index_or c.args.distances.now a None) in
    let n = c.loop-vertex.vertex in
    let told = c.loop-vertex.invariant.0 in
    elim c.if-is_some.branch [
      | then-is_some w ↦ (
        w.found-is ∙ ap Some (w.earlier.ensures ∙ ap (λ o. earlier_of before o n) told)
            ∙ sym (earliest_passing before test n (sym c.is_some.ensures ∙ w.if-is_some.true)),
        subst (IsBelow (length c.args.keys.now)) (sym w.found-is)
            (subst (λ (k : ℕ). k
            < length c.args.keys.now) (sym w.earlier.ensures) (earlier_below before c.loop-vertex.found n (length c.args.keys.now) c.loop-vertex.invariant.1
            c.loop-vertex-test.true)),
      )
      | else-is_some w ↦ (
        w.found-is ∙ told ∙ sym (earliest_failing before test n (sym c.is_some.ensures ∙ w.if-is_some.false)),
        subst (IsBelow (length c.args.keys.now)) (sym w.found-is) c.loop-vertex.invariant.1,
      )
    ]
