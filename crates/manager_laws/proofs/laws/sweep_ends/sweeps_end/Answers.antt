use Rattle.manager_laws.proofs.sweep_ends.Bounds as proved
use Rattle.manager_laws.proofs.laws.sweep_ends.sweeps_end.Goals as goal

pub returns : goal.returns
returns c = proved.sweeps_end
