use Rattle.manager_laws.proofs.PlannedPings as pings
use Rattle.manager_laws.proofs.laws.pings_arrive.Goals as goal

pub returns : goal.returns
returns c = pings.pings_arrive
