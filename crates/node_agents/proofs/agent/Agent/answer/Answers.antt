-- No request changes the node.
use Rattle.node_agents.proofs.Shapes.{met_keeps_node}
use Rattle.node_agents.proofs.agent.Agent.answer.Goals as goal

pub returns-in-Ok-clause-node : goal.returns-in-Ok-clause-node
returns-in-Ok-clause-node c = met_keeps_node c.args.self.now c.handle.new.agent c.args.smp.now c.args.arrival c.in-Ok.ensures.agent

pub returns-in-Err-clause-node : goal.returns-in-Err-clause-node
returns-in-Err-clause-node c = met_keeps_node c.args.self.now c.handle.new.agent c.args.smp.now c.args.arrival c.in-Err.ensures.agent
