-- What is told has 64 bytes, and each status is below the direction bit.
use Rattle.node_agents.proofs.Outcomes.{answers_hold}
use Rattle.node_agents.proofs.laws.answers_hold.Goals as goal

pub returns : goal.returns
returns c = answers_hold
