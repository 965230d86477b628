use Rattle.manager_laws.proofs.takeover.Seeing as proved
use Rattle.manager_laws.proofs.laws.takeover.who_sees_the_same_plans_the_same.Goals as goal

pub returns : goal.returns
returns c = proved.who_sees_the_same_plans_the_same
