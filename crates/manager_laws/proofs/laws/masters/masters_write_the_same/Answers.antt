use Rattle.manager_laws.proofs.masters.Together as proved
use Rattle.manager_laws.proofs.laws.masters.masters_write_the_same.Goals as goal

pub returns : goal.returns
returns c = proved.masters_write_the_same
