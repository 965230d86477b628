use Rattle.std.proofs.Common.{◌<◌, ℕ, sym, ap, ◌∙◌, subst, length}
use Rattle.std.specs.Prelude.{Some}
use Rattle.spread_labels.specs.KeyOrder.{before_by}
use Rattle.spread_labels.specs.Growth.{earlier_of}
use Rattle.spread_labels.proofs.Earlier.{IsBelow, earlier_below, earliest_with, earliest_without}
use Rattle.spread_labels.proofs.growth.earliest.Goals as goal
use Rattle.spread_labels.proofs.growth.earliest.Goals.{then-is_at, else-is_at}

pub loop-vertex-preserved : goal.loop-vertex-preserved
loop-vertex-preserved c =
    let before = before_by c.args.keys.now in
    let n = c.loop-vertex.vertex in
    let told = c.loop-vertex.invariant.0 in
    elim c.if-is_at.branch [
      | then-is_at w ↦ (
        w.found-is ∙ ap Some (w.earlier.ensures ∙ ap (λ o. earlier_of before o n) told)
            ∙ sym (earliest_with before c.args.stages.now c.args.stage n (sym c.is_at.ensures ∙ w.if-is_at.true)),
        subst (IsBelow (length c.args.keys.now)) (sym w.found-is)
            (subst (λ (k : ℕ). k
            < length c.args.keys.now) (sym w.earlier.ensures) (earlier_below before c.loop-vertex.found n (length c.args.keys.now) c.loop-vertex.invariant.1
            c.loop-vertex-test.true)),
      )
      | else-is_at w ↦ (
        w.found-is ∙ told ∙ sym (earliest_without before c.args.stages.now c.args.stage n (sym c.is_at.ensures ∙ w.if-is_at.false)),
        subst (IsBelow (length c.args.keys.now)) (sym w.found-is) c.loop-vertex.invariant.1,
      )
    ]
