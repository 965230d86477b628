use Rattle.manager_laws.proofs.masters.Known as proved
use Rattle.manager_laws.proofs.laws.masters.knows_one_sweep_means.Goals as goal

pub returns : goal.returns
returns c = proved.knows_one_sweep_means
