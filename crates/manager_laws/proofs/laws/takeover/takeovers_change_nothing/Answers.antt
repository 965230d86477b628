use Rattle.manager_laws.proofs.takeover.Claimed as proved
use Rattle.manager_laws.proofs.laws.takeover.takeovers_change_nothing.Goals as goal

pub returns : goal.returns
returns c = proved.takeovers_change_nothing
