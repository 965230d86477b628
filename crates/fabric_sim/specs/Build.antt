-- The fabric of a topology: the nodes have agents to which nothing was written, and there is a cable for each link.
use Rattle.std.specs.Prelude.{ℕ, ◌+◌, ◌-◌, ◌++◌, List, [], ◌∷◌, map, length, replicate, Option, None}
use Rattle.fabric_model.specs.declared.cable.NodePort.{NodePort}
use Rattle.fabric_model.specs.declared.cable.Cable.{Cable}
use Rattle.topo_file.specs.declared.node.Node.{Node}
use Rattle.topo_file.specs.Topology.{Layout}
use Rattle.node_agents.specs.declared.agent_node.AgentNode.{AgentNode}
use Rattle.node_agents.specs.Agent.{Agent, fresh_agent}
use Rattle.fabric_sim.specs.Traps.{no_traps}
use Rattle.fabric_sim.specs.Simulation.{Simulation}
use Rattle.fabric_sim.specs.Changes.{cabled_at}

-- a node of a topology, as an agent knows it; its description is the node's name, with zeros after it up to 64 bytes
abbrev pub agent_node : Node → AgentNode
agent_node node = record {
  guid = node.guid;
  kind = node.kind;
  ports = node.ports;
  cap = node.cap;
  description =
      node.name ++ replicate (64 - length node.name) 0;
}

-- the agent of `node` of a topology, to which nothing was written
abbrev pub new_agent : Node → Agent
new_agent node = fresh_agent (agent_node node)

-- the other ends of the cables in the ports of `node`, starting at port 0, before there is any cable: None for each
-- port
abbrev pub no_peers : Node → List (Option NodePort)
no_peers node = replicate (node.ports + 1) None

-- the fabric of the nodes `nodes` of a topology, with no cable and no packet in flight, in which switches send no
-- traps; `first` is the first serial number
abbrev pub uncabled : List Node → ℕ → Simulation
uncabled nodes first = record { agents = map new_agent nodes; peers = map no_peers nodes; flights = []; next = first; traps = no_traps }

-- the fabric `s` with a cable for each link of a list
abbrev pub cabled : List Cable → Simulation → Simulation
cabled [] s = s
cabled (link ∷ links) s = cabled links (cabled_at s link.one link.other)

-- the fabric of a topology; `first` is the first serial number
abbrev pub simulation_of : Layout → ℕ → Simulation
simulation_of t first = cabled t.links (uncabled t.nodes first)
