-- One count, and then the other.
use Rattle.byte_io.proofs.Writing.{writes_then}
use Rattle.audit_report.proofs.audit_text.write_others.Goals as goal

pub returns : goal.returns
returns g c = writes_then _ _ _ _ _ _ _ _ c.in_ok-write_count.ensures.ok c.write_count-2.ensures
