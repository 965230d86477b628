use Rattle.fabric_sim.proofs.PingSteps as steps
use Rattle.fabric_sim.proofs.laws.pings_tell.Goals as goal

pub returns : goal.returns
returns c = steps.pings_tell
