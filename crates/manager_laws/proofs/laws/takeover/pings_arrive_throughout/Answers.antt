use Rattle.manager_laws.proofs.takeover.Throughout as proved
use Rattle.manager_laws.proofs.laws.takeover.pings_arrive_throughout.Goals as goal

pub returns : goal.returns
returns c = proved.pings_arrive_throughout
