-- The port that is meant is written, and is told.
use Rattle.node_agents.proofs.Sets.{ports_are_set}
use Rattle.node_agents.proofs.laws.ports_are_set.Goals as goal

pub returns : goal.returns
returns c = ports_are_set
