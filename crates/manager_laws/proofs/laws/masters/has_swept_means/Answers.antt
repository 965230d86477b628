use Rattle.manager_laws.proofs.masters.Known as proved
use Rattle.manager_laws.proofs.laws.masters.has_swept_means.Goals as goal

pub returns : goal.returns
returns c = proved.has_swept_means
