-- An end port more.
use Rattle.std.proofs.Common.{◌∙◌, Bool, sym, ap, arith}
use Rattle.std.specs.Prelude.{not}
use Rattle.subnet_view.specs.declared.end_port.EndPort.{EndPort}
use Rattle.audit_counts.specs.Unmatched.{has_lid}
use Rattle.audit_counts.proofs.Firsts.{told_more, told_same, told_all}
use Rattle.audit_counts.proofs.unmatched.lidless.Goals as goal
use Rattle.audit_counts.proofs.unmatched.lidless.Goals.{then-not-has_lid+in_ok-add, else-not-has_lid}

pub loop-port-preserved : goal.loop-port-preserved
loop-port-preserved c =
    let ports = c.args.ports.now in
    let p : EndPort → Bool = λ e. not (has_lid c.args.held.now e) in
    let port = c.port-item.result in
    elim c.if-not-has_lid.branch [
      | then-not-has_lid+in_ok-add w ↦
          told_more c.args.most p ports c.loop-port.port-index port c.loop-port.few c.if-not-has_lid.few c.loop-port.invariant c.loop-port-test.true c.port-item.is
          (ap not (sym c.has_lid.ensures ∙ w.if-not-has_lid.true)) (w.few-is ∙ w.in_ok-add.ensures)
      | else-not-has_lid w ↦
          told_same c.args.most p ports c.loop-port.port-index port c.loop-port.few c.if-not-has_lid.few c.loop-port.invariant c.loop-port-test.true c.port-item.is
          (ap not (sym c.has_lid.ensures ∙ w.if-not-has_lid.false)) w.few-is
    ]

pub returns : goal.returns
returns c = told_all c.args.most (λ e. not (has_lid c.args.held.now e)) c.args.ports.now c.loop-port.port-index c.loop-port.few c.loop-port.invariant (omega arith)
