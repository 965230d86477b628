use Rattle.manager_laws.proofs.Swept as swept
use Rattle.manager_laws.proofs.laws.accepted_facts_are_true.Goals as goal

pub returns : goal.returns
returns c = swept.accepted_facts_are_true
