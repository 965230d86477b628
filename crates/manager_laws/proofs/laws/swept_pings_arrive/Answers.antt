use Rattle.manager_laws.proofs.Done as done
use Rattle.manager_laws.proofs.laws.swept_pings_arrive.Goals as goal

pub returns : goal.returns
returns c = done.swept_pings_arrive
