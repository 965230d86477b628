use Rattle.manager_laws.proofs.takeover.Planning as proved
use Rattle.manager_laws.proofs.laws.takeover.claimed_plans_stay.Goals as goal

pub returns : goal.returns
returns c = proved.claimed_plans_stay
