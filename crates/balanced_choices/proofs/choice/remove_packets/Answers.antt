use Rattle.std.proofs.Common.{◌+◌, ◌-◌, List, ℕ, sym, ap, ◌∙◌, arith, get_or, length}
use Rattle.spread_labels.specs.Orders.{numbers_from}
use Rattle.balanced_choices.specs.EdgesTaken.{way_by, without_by}
use Rattle.balanced_choices.proofs.InOrder.{numbers_left}
use Rattle.balanced_choices.proofs.NoPackets.{none_removed}
use Rattle.balanced_choices.proofs.choice.remove_packets.Goals as goal
use Rattle.balanced_choices.proofs.choice.remove_packets.Goals.{then-removed-gt0, else-removed-gt0}

pub loop-position-preserved : goal.loop-position-preserved
loop-position-preserved c =
    let without = without_by c.args.sent.now c.args.taken.now in
    let n = length c.args.taken.now in
    let p = c.loop-position.position in
    let loads = c.loop-position.loads in
    let left = numbers_left n p (omega (arith, c.loop-position-test.true)) in
    let rest : List ℕ → List ℕ = λ ls. without ls (numbers_from (p + 1) (n - (p + 1))) in
    let next = sym (ap (without loads) left) ∙ c.loop-position.invariant in
    elim c.if-removed-gt0.branch [
      | then-removed-gt0 w ↦ ap rest (w.loads-is ∙ w.change_way.ensures) ∙ next
      | else-removed-gt0 w ↦
          let none = none_removed (get_or c.args.sent.now p 0) loads (way_by c.args.taken.now p) (omega (arith, w.if-removed-gt0.false)) in
          ap rest (w.loads-is ∙ sym none) ∙ next
    ]
