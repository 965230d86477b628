use Rattle.manager_laws.proofs.masters.Together as proved
use Rattle.manager_laws.proofs.laws.masters.masters_keep_lids.Goals as goal

pub returns : goal.returns
returns c = proved.masters_keep_lids
