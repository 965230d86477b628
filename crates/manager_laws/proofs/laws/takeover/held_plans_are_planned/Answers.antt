use Rattle.manager_laws.proofs.takeover.Seeing as proved
use Rattle.manager_laws.proofs.laws.takeover.held_plans_are_planned.Goals as goal

pub returns : goal.returns
returns c = proved.held_plans_are_planned
