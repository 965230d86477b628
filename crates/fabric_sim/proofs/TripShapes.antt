-- What stays of a fabric while no cable changes: its nodes, the cables between them, and a packet that no call is for.
use Rattle.std.proofs.Common.{◌≡◌, ℕ, zero, suc, ◌≤◌, false, List, [], ◌∷◌, map, refl, sym, ap, ◌∙◌, subst}
use Rattle.std.proofs.lemmas.Option.{same_Some}
use Rattle.std.specs.Prelude.{Option, Some, None, slice_get, slice_set}
use Rattle.std.specs.Option.{option_map_or}
use Rattle.smp_bytes.specs.NodeType.{is_switch as is_switch_type}
use Rattle.fabric_model.specs.Fabric.{is_switch_at}
use Rattle.node_agents.specs.declared.agent_node.AgentNode.{AgentNode}
use Rattle.node_agents.specs.Agent.{Agent, IsAgent, node_of}
use Rattle.fabric_sim.specs.Simulation.{Simulation, port_count, fabric_of}
use Rattle.fabric_sim.specs.Delivery.{with_changed}
use Rattle.fabric_sim.proofs.TripFlights.{AreGiven}

-- nodes --------------------------------------------------------------------------------

abbrev pub nodes_of : List Agent → List AgentNode
nodes_of agents = map (λ a. a.node) agents

-- what is read of the node of an id
pub read_of_node : {X : Type 0} (read : AgentNode → X) (d : X) (agents : List Agent) (id : ℕ)
    → option_map_or (λ (a : Agent). read a.node) (slice_get agents id) d ≡ option_map_or read (slice_get (nodes_of agents) id) d
read_of_node read d [] id = refl
read_of_node read d (a ∷ agents) zero = refl
read_of_node read d (a ∷ agents) (suc id) = read_of_node read d agents id

pub switch_by_node : (agents : List Agent) (id : ℕ)
    → option_map_or (λ node. is_switch_type node.kind) (slice_get (map node_of agents) id) false
    ≡ option_map_or (λ (n : AgentNode). is_switch_type n.kind) (slice_get (nodes_of agents) id) false
switch_by_node [] id = refl
switch_by_node (a ∷ agents) zero = refl
switch_by_node (a ∷ agents) (suc id) = switch_by_node agents id

nodes_set : (agents : List Agent) (id : ℕ) (a to : Agent) → slice_get agents id ≡ Some a → to.node ≡ a.node
    → nodes_of (slice_set agents id to) ≡ nodes_of agents
nodes_set [] id a to h e = refl
nodes_set (x ∷ agents) zero a to h e = ap (λ n. n ∷ nodes_of agents) (e ∙ ap (λ (y : Agent). y.node) (sym (same_Some x a h)))
nodes_set (x ∷ agents) (suc id) a to h e = ap (λ ns. x.node ∷ ns) (nodes_set agents id a to h e)

pub nodes_changed : (agents : List Agent) (id : ℕ) (change : Agent → Agent) → ((a : Agent) → (change a).node ≡ a.node)
    → nodes_of (with_changed agents id change) ≡ nodes_of agents
nodes_changed agents id change keeps = by_agent (slice_get agents id) refl
  where
    by_agent : (o : Option Agent) → slice_get agents id ≡ o → nodes_of (option_map_or (λ a. slice_set agents id (change a)) o agents) ≡ nodes_of agents
    by_agent None e = refl
    by_agent (Some a) e = nodes_set agents id a (change a) e (keeps a)

-- agents -------------------------------------------------------------------------------

abbrev pub AreAgents : List Agent → Type 0
AreAgents [] = Unit {0}
AreAgents (a ∷ agents) = IsAgent a × AreAgents agents

pub agent_there : (agents : List Agent) (id : ℕ) (a : Agent) → AreAgents agents → slice_get agents id ≡ Some a → IsAgent a
agent_there [] id a all h = absurd (cc)
agent_there (x ∷ agents) zero a all h = subst IsAgent (same_Some x a h) all.0
agent_there (x ∷ agents) (suc id) a all h = agent_there agents id a all.1 h

agents_set : (agents : List Agent) (id : ℕ) (to : Agent) → AreAgents agents → IsAgent to → AreAgents (slice_set agents id to)
agents_set [] id to all h = tt
agents_set (x ∷ agents) zero to all h = (h, all.1)
agents_set (x ∷ agents) (suc id) to all h = (all.0, agents_set agents id to all.1 h)

pub agents_changed : (agents : List Agent) (id : ℕ) (change : Agent → Agent) → AreAgents agents
    → ((a : Agent) → slice_get agents id ≡ Some a → IsAgent a → IsAgent (change a)) → AreAgents (with_changed agents id change)
agents_changed agents id change all keeps = by_agent (slice_get agents id) refl
  where
    by_agent : (o : Option Agent) → slice_get agents id ≡ o → AreAgents (option_map_or (λ a. slice_set agents id (change a)) o agents)
    by_agent None e = all
    by_agent (Some a) e = agents_set agents id (change a) all (keeps a e (agent_there agents id a all e))

-- along some calls ---------------------------------------------------------------------

-- the nodes and cables are as they were, and serial numbers are given in turn
pub record IsAlong (start s : Simulation) : Type 0 where
  pub nodes : nodes_of s.agents ≡ nodes_of start.agents
  pub peers : s.peers ≡ start.peers
  pub agents : AreAgents s.agents
  pub given : AreGiven s.next s.flights
  pub next : start.next ≤ s.next

-- a port has its node's counts and type as before
pub port_count_stays : {start s : Simulation} → IsAlong start s → (id : ℕ) → port_count s id ≡ port_count start id
port_count_stays {start = start} {s = s} along id =
    read_of_node (λ (n : AgentNode). n.ports) 0 s.agents id
    ∙ ap (λ ns. option_map_or (λ (n : AgentNode). n.ports) (slice_get ns id) 0) along.nodes
    ∙ sym (read_of_node (λ (n : AgentNode). n.ports) 0 start.agents id)

pub switch_stays : {start s : Simulation} → IsAlong start s → (id : ℕ) → is_switch_at (fabric_of s) id ≡ is_switch_at (fabric_of start) id
switch_stays {start = start} {s = s} along id =
    switch_by_node s.agents id
    ∙ ap (λ ns. option_map_or (λ (n : AgentNode). is_switch_type n.kind) (slice_get ns id) false) along.nodes
    ∙ sym (switch_by_node start.agents id)
