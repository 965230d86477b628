-- Node description: what a Get returns. It cannot be set.
-- InfiniBand Architecture Specification, Volume 1: subnet management, NodeDescription.
use Rattle.std.specs.Prelude.{ℕ, List}
use Rattle.node_agents.specs.Agent.{Agent}

-- the 64 bytes that the node was given
abbrev pub get_node_description : Agent → List ℕ
get_node_description a = a.node.description
