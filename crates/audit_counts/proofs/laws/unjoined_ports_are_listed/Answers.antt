use Rattle.audit_counts.proofs.Gaps.{ports_law}
use Rattle.audit_counts.proofs.laws.unjoined_ports_are_listed.Goals as goal

pub returns : goal.returns
returns c = ports_law
