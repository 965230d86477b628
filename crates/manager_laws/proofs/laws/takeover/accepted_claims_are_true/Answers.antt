use Rattle.manager_laws.proofs.takeover.Claimed as proved
use Rattle.manager_laws.proofs.laws.takeover.accepted_claims_are_true.Goals as goal

pub returns : goal.returns
returns c = proved.accepted_claims_are_true
