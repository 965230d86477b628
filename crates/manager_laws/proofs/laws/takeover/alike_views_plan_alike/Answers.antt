use Rattle.manager_laws.proofs.takeover.Planning as proved
use Rattle.manager_laws.proofs.laws.takeover.alike_views_plan_alike.Goals as goal

pub returns : goal.returns
returns c = proved.alike_views_plan_alike
