use Rattle.manager_laws.proofs.sweep_ends.Bounds as proved
use Rattle.manager_laws.proofs.laws.sweep_ends.sweeps_ask_few.Goals as goal

pub returns : goal.returns
returns c = proved.sweeps_ask_few
