-- A LID more.
use Rattle.std.proofs.Common.{◌∙◌, Bool, sym, ap, arith}
use Rattle.std.specs.Prelude.{not}
use Rattle.fact_store.specs.View.{cells_of}
use Rattle.held_tables.specs.declared.held.HeldLid.{HeldLid}
use Rattle.subnet_view.specs.EndPort.{end_ports}
use Rattle.held_tables.specs.Tables.{is_owner}
use Rattle.audit_counts.proofs.Firsts.{told_more, told_same, told_all}
use Rattle.packet_walks.proofs.Judged.{listed}
use Rattle.audit_counts.proofs.unmatched.unowned.Goals as goal
use Rattle.audit_counts.proofs.unmatched.unowned.Goals.{then-not-is_end_port+in_ok-add, else-not-is_end_port}

pub loop-line-preserved : goal.loop-line-preserved
loop-line-preserved c =
    let lines = c.args.lines.now in
    let cells = cells_of c.args.store.now in
    let p : HeldLid → Bool = λ line. not (is_owner (end_ports cells) line.port) in
    let line = c.line-item.result in
    let found = c.is_end_port.ensures ∙ listed c.args.store.now line.port in
    elim c.if-not-is_end_port.branch [
      | then-not-is_end_port+in_ok-add w ↦
          told_more c.args.most p lines c.loop-line.line-index line c.loop-line.few c.if-not-is_end_port.few c.loop-line.invariant c.loop-line-test.true c.line-item.is
          (ap not (sym found ∙ w.if-not-is_end_port.true)) (w.few-is ∙ w.in_ok-add.ensures)
      | else-not-is_end_port w ↦
          told_same c.args.most p lines c.loop-line.line-index line c.loop-line.few c.if-not-is_end_port.few c.loop-line.invariant c.loop-line-test.true c.line-item.is
          (ap not (sym found ∙ w.if-not-is_end_port.false)) w.few-is
    ]

pub returns : goal.returns
returns c =
    let p : HeldLid → Bool = λ line. not (is_owner (end_ports (cells_of c.args.store.now)) line.port) in
    told_all c.args.most p c.args.lines.now c.loop-line.line-index c.loop-line.few c.loop-line.invariant (omega arith)
