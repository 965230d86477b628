use Rattle.manager_laws.proofs.masters.Example as proved
use Rattle.manager_laws.proofs.laws.masters.some_masters_write_at_once.Goals as goal

pub returns : goal.returns
returns c = proved.some_masters_write_at_once
