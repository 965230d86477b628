use Rattle.audit_counts.proofs.Gaps.{nodes_law}
use Rattle.audit_counts.proofs.laws.unusable_nodes_are_listed.Goals as goal

pub returns : goal.returns
returns c = nodes_law
