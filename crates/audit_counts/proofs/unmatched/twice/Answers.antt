-- A LID more.
use Rattle.std.proofs.Common.{◌∙◌, sym}
use Rattle.audit_counts.specs.Unmatched.{is_twice}
use Rattle.audit_counts.proofs.Firsts.{told_more, told_same}
use Rattle.audit_counts.proofs.unmatched.twice.Goals as goal
use Rattle.audit_counts.proofs.unmatched.twice.Goals.{then-has_several_owners+in_ok-add, else-has_several_owners}

pub loop-line-preserved : goal.loop-line-preserved
loop-line-preserved c =
    let lines = c.lids-line-items.result.now in
    let p = is_twice c.args.network.now.held in
    let line = c.line-item.result in
    elim c.if-has_several_owners.branch [
      | then-has_several_owners+in_ok-add w ↦
          told_more c.args.most p lines c.loop-line.line-index line c.loop-line.few c.if-has_several_owners.few c.loop-line.invariant c.loop-line-test.true c.line-item.is
          (sym w.if-has_several_owners.ensures) (w.few-is ∙ w.in_ok-add.ensures)
      | else-has_several_owners w ↦
          told_same c.args.most p lines c.loop-line.line-index line c.loop-line.few c.if-has_several_owners.few c.loop-line.invariant c.loop-line-test.true c.line-item.is
          (sym w.if-has_several_owners.ensures) w.few-is
    ]
