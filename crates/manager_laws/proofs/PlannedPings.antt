-- Where a plan is in force, pings reach the owners of LIDs.
use Rattle.std.proofs.Common.{◌≡◌, ◌≤◌, ℕ, refl, ap, ◌∙◌, arith, Bool, true, false, cond, ◌||◌, map}
use Rattle.std.proofs.lemmas.Bool.{and_from, le-leb, or_left, or_right}
use Rattle.std.specs.Prelude.{None, Some, MatchBool, nat_le, slice_get}
use Rattle.std.specs.Option.{option_map_or}
use Rattle.fact_store.specs.View.{cells_of}
use Rattle.fabric_model.specs.declared.cable.NodePort.{NodePort}
use Rattle.smp_bytes.specs.NodeType.{is_switch as is_switch_type}
use Rattle.fabric_model.specs.Fabric.{Node, IsEndPort, is_switch_at}
use Rattle.fabric_model.specs.FabricWalks.{IsJoinedTo}
use Rattle.fabric_model.proofs.FabricWalks.{type_at}
use Rattle.node_agents.specs.Agent.{Agent, node_of}
use Rattle.fabric_sim.specs.declared.fabric_fault.FabricFault.TheVariants.{NoSuchPort}
use Rattle.fabric_sim.specs.Simulation.{Simulation, port_count, is_port, fabric_of}
use Rattle.fabric_sim.proofs.PingsFind.{pings_find}
use Rattle.fabric_sim.proofs.SeenFabrics.{agent_seen, simulations_are_fabrics}
use Rattle.lft_blocks.specs.Plan.{plan_of}
use Rattle.lft_blocks.specs.InForce.{IsInForce}
use Rattle.lft_blocks.proofs.Reached.{every_packet_arrives}
use Rattle.manager_laws.specs.Pings.{PingsArrive}

-- a node has as many ports as its agent says
count_at : (s : Simulation) (id : ℕ) (node : Node) → slice_get (map node_of s.agents) id ≡ Some node → port_count s id ≡ node.ports
count_at s id node at =
    let (a, there, same) = agent_seen s id node at in
    ap (λ o. option_map_or (λ (b : Agent). b.node.ports) o 0) there ∙ ap (λ (n : Node). n.ports) same

-- an end port is a port of the simulated fabric
end_is_port : (s : Simulation) (p : NodePort) → IsEndPort (fabric_of s) p → is_port s p ≡ true
end_is_port s p (node, at, number) =
    let count = count_at s p.node node at in
    let kind = type_at (fabric_of s) p.node node at in
    elim (is_switch_type node.kind) as
    (λ t. is_switch_type node.kind ≡ t → MatchBool t (p.port ≡ 0) ((1 ≤ p.port) × (p.port ≤ node.ports)) → is_port s p ≡ true) [
      | true ↦ λ e z. and_from (nat_le p.port (port_count s p.node)) (nat_le 1 p.port || is_switch_at (fabric_of s) p.node)
          (le-leb p.port (port_count s p.node) (omega (arith, z)))
          (or_right (nat_le 1 p.port) (is_switch_at (fabric_of s) p.node) (kind ∙ e))
      | false ↦ λ e l. and_from (nat_le p.port (port_count s p.node)) (nat_le 1 p.port || is_switch_at (fabric_of s) p.node)
          (le-leb p.port (port_count s p.node) (omega (arith, l.1, count)))
          (or_left (nat_le 1 p.port) (is_switch_at (fabric_of s) p.node) (le-leb 1 p.port l.0))
    ] refl number

pub pings_arrive : PingsArrive
pings_arrive rule lmc facts s origin has_room is is_origin agrees holds source is_end joined lid owner owned =
    let in_force : IsInForce (IsJoinedTo (fabric_of s) origin) (cells_of facts) (plan_of rule lmc (cells_of facts)) (fabric_of s) =
    record { is_fabric = simulations_are_fabrics s is; agrees = agrees; holds = holds } in
    let a = every_packet_arrives rule lmc facts has_room (fabric_of s) origin is_origin in_force source is_end joined lid owner owned in
    record {
      accepted = ap (λ (t : Bool). cond t None (Some NoSuchPort)) (end_is_port s source is_end);
      arrives = a;
      reached = pings_find (fabric_of s) lid source a.target a.hops a.delivered;
    }
