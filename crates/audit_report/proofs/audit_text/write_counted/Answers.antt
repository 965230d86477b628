-- Its parts in turn.
use Rattle.std.specs.Prelude.{◌++◌, codes}
use Rattle.byte_io.proofs.Bytes.{Appends-trans}
use Rattle.byte_io.proofs.Writing.{writes_then}
use Rattle.audit_report.specs.AuditText.{causes_text, others_text}
use Rattle.audit_report.proofs.audit_text.write_counted.Goals as goal

pub returns : goal.returns
returns g c =
    let causes = causes_text c.args.causes.now in
    let others = others_text c.args.misdelivered c.args.round in
    let two = Appends-trans _ _ _ (codes "missed") causes c.in_ok-write.ensures.writes.ok c.in_ok-write_causes.ensures.ok in
    let three = Appends-trans _ _ _ (codes "missed" ++ causes) others two c.in_ok-write_others.ensures.ok in
    writes_then _ _ _ _ _ _ ((codes "missed" ++ causes) ++ others) (codes "\n") three c.write-2.ensures.writes
