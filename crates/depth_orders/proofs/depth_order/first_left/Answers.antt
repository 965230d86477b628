use Rattle.std.proofs.Common.{◌<◌, ℕ, sym, ap, ◌∙◌, subst, length}
use Rattle.std.specs.Prelude.{Some, not}
use Rattle.spread_labels.specs.KeyOrder.{before_by}
use Rattle.spread_labels.specs.Growth.{earlier_of}
use Rattle.spread_labels.proofs.Earlier.{IsBelow, earlier_below, earliest_passing, earliest_failing}
use Rattle.depth_orders.specs.DepthOrder.{flag_at, turned}
use Rattle.depth_orders.proofs.depth_order.first_left.Goals as goal
use Rattle.depth_orders.proofs.depth_order.first_left.Goals.{then-not-is_placed, else-not-is_placed}

pub loop-vertex-preserved : goal.loop-vertex-preserved
loop-vertex-preserved c =
    let before = turned c.args.direction (before_by c.args.keys.now) in
    let test = λ (b : ℕ). not (flag_at c.args.placed.now b) in
    let n = c.loop-vertex.vertex in
    let told = c.loop-vertex.invariant.0 in
    elim c.if-not-is_placed.branch [
      | then-not-is_placed w ↦ (
        w.found-is ∙ ap Some (w.earlier.ensures ∙ ap (λ o. earlier_of before o n) told)
            ∙ sym (earliest_passing before test n (ap not (sym c.is_placed.ensures ∙ w.if-not-is_placed.true))),
        subst (IsBelow (length c.args.keys.now)) (sym w.found-is)
            (subst (λ (k : ℕ). k
            < length c.args.keys.now) (sym w.earlier.ensures) (earlier_below before c.loop-vertex.found n (length c.args.keys.now) c.loop-vertex.invariant.1
            c.loop-vertex-test.true)),
      )
      | else-not-is_placed w ↦ (
        w.found-is ∙ told ∙ sym (earliest_failing before test n (ap not (sym c.is_placed.ensures ∙ w.if-not-is_placed.false))),
        subst (IsBelow (length c.args.keys.now)) (sym w.found-is) c.loop-vertex.invariant.1,
      )
    ]
