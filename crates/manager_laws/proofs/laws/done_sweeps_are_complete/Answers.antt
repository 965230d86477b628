use Rattle.manager_laws.proofs.Done as done
use Rattle.manager_laws.proofs.laws.done_sweeps_are_complete.Goals as goal

pub returns : goal.returns
returns c = done.done_sweeps_are_complete
