use Rattle.fabric_sim.proofs.SeenFabrics as seen
use Rattle.fabric_sim.proofs.laws.simulations_are_fabrics.Goals as goal

pub returns : goal.returns
returns c = seen.simulations_are_fabrics
