use Rattle.manager_laws.proofs.Rests.{new_managers_sweep_first}
use Rattle.manager_laws.proofs.laws.new_managers_sweep_first.Goals as goal

pub returns : goal.returns
returns c = new_managers_sweep_first
