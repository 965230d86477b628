use Rattle.fabric_sim.proofs.PingsFind as find
use Rattle.fabric_sim.proofs.laws.pings_find.Goals as goal

pub returns : goal.returns
returns c = find.pings_find
