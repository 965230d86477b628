-- What packets see of a simulation is a fabric.
use Rattle.std.proofs.Common.{◌≡◌, ◌≤◌, ℕ, refl, sym, ap, ◌∙◌, subst, arith, true, map}
use Rattle.std.proofs.lemmas.Bool.{and_parts, leb-true}
use Rattle.std.proofs.lemmas.Option.{slice_get-map}
use Rattle.std.specs.Prelude.{Option, None, Some, nat_le, option_map, slice_get}
use Rattle.std.specs.Option.{option_map_or}
use Rattle.fabric_model.specs.declared.cable.NodePort.{NodePort}
use Rattle.fabric_model.specs.Fabric.{Node, IsCablePort}
use Rattle.node_agents.specs.Agent.{Agent, node_of}
use Rattle.fabric_sim.specs.Simulation.{Simulation, agent_at, port_count, is_cable_port, fabric_of}
use Rattle.fabric_sim.specs.SimulationsAreFabrics.{SimulationsAreFabrics}
use Rattle.fabric_sim.proofs.TripShapes.{agent_there}
use Rattle.fabric_sim.proofs.TripEnds.{agents_of, agent_by_port}

-- a node that is seen is an agent's
pub agent_seen : (s : Simulation) (id : ℕ) (node : Node) → slice_get (map node_of s.agents) id ≡ Some node
    → (a : Agent) × (agent_at s id ≡ Some a) × (node_of a ≡ node)
agent_seen s id node at = go (agent_at s id) refl (sym (slice_get-map node_of s.agents id) ∙ at)
  where
    go : (o : Option Agent) → agent_at s id ≡ o → option_map node_of o ≡ Some node → (a : Agent) × (agent_at s id ≡ Some a) × (node_of a ≡ node)
    go None e k = absurd (cc)
    go (Some a) e k = (a, e, cc)

cable_port : (s : Simulation) (p : NodePort) → is_cable_port s p ≡ true → IsCablePort (fabric_of s) p
cable_port s p e =
    let parts = and_parts (nat_le 1 p.port) (nat_le p.port (port_count s p.node)) e in
    let from_one = leb-true 1 p.port parts.0 in
    let to_count = leb-true p.port (port_count s p.node) parts.1 in
    let (a, at) = agent_by_port s p.node (omega (arith, from_one, to_count)) in
    let count : port_count s p.node ≡ a.node.ports = ap (λ o. option_map_or (λ (b : Agent). b.node.ports) o 0) at in
    (node_of a, slice_get-map node_of s.agents p.node ∙ ap (option_map node_of) at, from_one, omega (arith, to_count, count))

pub simulations_are_fabrics : SimulationsAreFabrics
simulations_are_fabrics s is =
    record {
      counts = λ id node at.
          let (a, there, same) = agent_seen s id node at in
          subst (λ (n : Node). (1 ≤ n.ports) × (n.ports ≤ 254)) same (agent_there s.agents id a (agents_of s.agents is.agents) there).node.ports;
      cabled = λ p q e. cable_port s p (is.cables.ends p q e);
      both_ways = is.cables.lead_back;
    }
