use Rattle.manager_laws.proofs.masters.Written as proved
use Rattle.manager_laws.proofs.laws.masters.written_by_one_is_held.Goals as goal

pub returns : goal.returns
returns c = proved.written_by_one_is_held
