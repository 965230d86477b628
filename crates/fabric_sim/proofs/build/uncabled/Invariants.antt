use Rattle.std.proofs.Common.{◌-◌, length}
use Rattle.fabric_sim.proofs.Built.{NodesIn}
use Rattle.fabric_sim.proofs.build.uncabled.Given as goal

abbrev pub invariant-loop-node : goal.invariant-loop-node
invariant-loop-node l = NodesIn l.topology l.agents.items l.peers.items

abbrev pub decreases-loop-node : goal.decreases-loop-node
decreases-loop-node l = length l.topology.nodes - length l.agents.items
