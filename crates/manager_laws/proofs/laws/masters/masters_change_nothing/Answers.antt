use Rattle.manager_laws.proofs.masters.Together as proved
use Rattle.manager_laws.proofs.laws.masters.masters_change_nothing.Goals as goal

pub returns : goal.returns
returns c = proved.masters_change_nothing
