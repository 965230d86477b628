-- A Set keeps what holds of an agent.
use Rattle.std.proofs.Common.{rules}
use Rattle.node_agents.proofs.Shapes.{is_agent-changed}
use Rattle.node_agents.proofs.port_info.set.Goals as goal

pub invariant_of-agent : goal.invariant_of-agent
invariant_of-agent c = is_agent-changed _ _ _ _ _ _ _ c.agent.invariant c.agent.view_is c.in-Some.ensures.changed (search rules)
