use Rattle.manager_laws.proofs.takeover.Takeover as proved
use Rattle.manager_laws.proofs.laws.takeover.takeover_changes_nothing.Goals as goal

pub returns : goal.returns
returns c = proved.takeover_changes_nothing
