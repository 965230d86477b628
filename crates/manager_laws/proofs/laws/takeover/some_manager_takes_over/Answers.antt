use Rattle.manager_laws.proofs.takeover.Example as proved
use Rattle.manager_laws.proofs.laws.takeover.some_manager_takes_over.Goals as goal

pub returns : goal.returns
returns c = proved.some_manager_takes_over
