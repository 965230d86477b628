use Rattle.manager_laws.proofs.takeover.Seeing as proved
use Rattle.manager_laws.proofs.laws.takeover.known_plans_stay.Goals as goal

pub returns : goal.returns
returns c = proved.known_plans_stay
