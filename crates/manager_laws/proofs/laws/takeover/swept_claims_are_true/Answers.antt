use Rattle.manager_laws.proofs.takeover.Claimed as proved
use Rattle.manager_laws.proofs.laws.takeover.swept_claims_are_true.Goals as goal

pub returns : goal.returns
returns c = proved.swept_claims_are_true
