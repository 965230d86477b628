use Rattle.fabric_sim.proofs.TrapsEnd.{represses_end_traps}
use Rattle.fabric_sim.proofs.laws.represses_end_traps.Goals as goal

pub returns : goal.returns
returns c = represses_end_traps
