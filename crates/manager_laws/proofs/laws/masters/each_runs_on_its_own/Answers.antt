use Rattle.manager_laws.proofs.masters.Runs as proved
use Rattle.manager_laws.proofs.laws.masters.each_runs_on_its_own.Goals as goal

pub returns : goal.returns
returns c = proved.each_runs_on_its_own
