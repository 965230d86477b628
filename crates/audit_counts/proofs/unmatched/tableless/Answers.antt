-- A switch more.
use Rattle.std.proofs.Common.{◌∙◌, ℕ, Bool, sym, ap, arith}
use Rattle.std.specs.Prelude.{not}
use Rattle.audit_counts.specs.Unmatched.{is_held}
use Rattle.audit_counts.proofs.Firsts.{told_more, told_same, told_all}
use Rattle.audit_counts.proofs.unmatched.tableless.Goals as goal
use Rattle.audit_counts.proofs.unmatched.tableless.Goals.{then-not-is_held+in_ok-add, else-not-is_held}

pub loop-guid-preserved : goal.loop-guid-preserved
loop-guid-preserved c =
    let guids = c.args.guids.now in
    let p : ℕ → Bool = λ g. not (is_held c.args.held.now g) in
    let guid = c.guid-item.result in
    elim c.if-not-is_held.branch [
      | then-not-is_held+in_ok-add w ↦
          told_more c.args.most p guids c.loop-guid.guid-index guid c.loop-guid.few c.if-not-is_held.few c.loop-guid.invariant c.loop-guid-test.true c.guid-item.is
          (ap not (sym c.is_held.ensures ∙ w.if-not-is_held.true)) (w.few-is ∙ w.in_ok-add.ensures)
      | else-not-is_held w ↦
          told_same c.args.most p guids c.loop-guid.guid-index guid c.loop-guid.few c.if-not-is_held.few c.loop-guid.invariant c.loop-guid-test.true c.guid-item.is
          (ap not (sym c.is_held.ensures ∙ w.if-not-is_held.false)) w.few-is
    ]

pub returns : goal.returns
returns c = told_all c.args.most (λ g. not (is_held c.args.held.now g)) c.args.guids.now c.loop-guid.guid-index c.loop-guid.few c.loop-guid.invariant (omega arith)
