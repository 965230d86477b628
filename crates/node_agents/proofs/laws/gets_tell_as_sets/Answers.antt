-- Both tell what a Get of the agent afterwards does.
use Rattle.node_agents.proofs.Told.{gets_tell_as_sets}
use Rattle.node_agents.proofs.laws.gets_tell_as_sets.Goals as goal

pub returns : goal.returns
returns c = gets_tell_as_sets
