-- What agents hold doesn't matter: facts that agree with a fabric agree with each that has the same nodes and cables.
use Rattle.std.proofs.Common.{◌≡◌, ℕ, zero, suc, map, List, [], ◌∷◌, refl, sym, ap, ◌∙◌, subst}
use Rattle.std.specs.Prelude.{Option, Some, slice_get}
use Rattle.fabric_model.specs.declared.cable.NodePort.{NodePort}
use Rattle.fabric_model.specs.Fabric.{Fabric, IsEndPort, IsEndPortNumber, Node, IsPortNamed}
use Rattle.fabric_model.specs.FabricWalks.{IsJoinedTo, Walk}
use Rattle.node_agents.specs.declared.agent_node.AgentNode.{AgentNode}
use Rattle.node_agents.specs.Agent.{Agent, node_of, port_guid}
use Rattle.fabric_sim.specs.Simulation.{Simulation, across, fabric_of}
use Rattle.fabric_sim.proofs.TripShapes.{IsAlong, nodes_of}
use Rattle.subnet_view.specs.Reading.{Cells}
use Rattle.subnet_view.specs.FabricAgreement.{AgreesOn, HasEndPort, HasWire, IsEndPortIn}

module _ (f : Fabric) (base_lid lmc : NodePort → ℕ) (entry : ℕ → ℕ → ℕ) (top : ℕ → ℕ) where
  -- the same nodes and cables, with other LIDs and tables
  abbrev pub holding : Fabric
  holding = record f { base_lid = base_lid; lmc = lmc; entry = entry; top = top }

  walk_there : (n : ℕ) (a b : NodePort) → Walk f a b n → Walk holding a b n
  walk_there zero a b w = w
  walk_there (suc n) a b (c, next, between, w) = (
    c,
    record {
      out = next.out;
      into = next.into;
      wire = record { cable = next.wire.cable; different = next.wire.different };
      of_one = next.of_one;
      of_other = next.of_other;
    },
    between,
    walk_there n c b w,
  )

  pub joined_there : (a b : NodePort) → IsJoinedTo f a b → IsJoinedTo holding a b
  joined_there a b (n, w) = (n, walk_there n a b w)

  named_there : (g p : ℕ) (port : NodePort) → IsPortNamed f g p port → IsPortNamed holding g p port
  named_there g p port named = record { node = named.node; node_there = named.node_there; guid_is = named.guid_is; port_is = named.port_is }

  end_port_there : (seat : NodePort) (g p : ℕ) → HasEndPort (IsJoinedTo f seat) f g p → HasEndPort (IsJoinedTo holding seat) holding g p
  end_port_there seat g p has =
      record {
        port = has.port;
        named = named_there g p has.port has.named;
        end_port = has.end_port;
        in_part = joined_there seat has.port has.in_part;
      }

  end_there : (seat port : NodePort) (node : Node) → IsEndPortIn (IsJoinedTo f seat) f port node → IsEndPortIn (IsJoinedTo holding seat) holding port node
  end_there seat port node is = record { node_there = is.node_there; end_port = is.end_port; in_part = joined_there seat port is.in_part }

  wire_there : (seat : NodePort) (g p h q : ℕ) → HasWire (IsJoinedTo f seat) f g p h q → HasWire (IsJoinedTo holding seat) holding g p h q
  wire_there seat g p h q has =
      record {
        from = has.from;
        to = has.to;
        from_named = named_there g p has.from has.from_named;
        to_named = named_there h q has.to has.to_named;
        wire = record { cable = has.wire.cable; different = has.wire.different };
        in_part = joined_there seat _ has.in_part;
      }

agrees_holding : (f : Fabric) (base_lid lmc : NodePort → ℕ) (entry : ℕ → ℕ → ℕ) (top : ℕ → ℕ) (seat : NodePort) (cells : Cells)
    → AgreesOn (IsJoinedTo f seat) cells f → AgreesOn (IsJoinedTo (holding f base_lid lmc entry top) seat) cells (holding f base_lid lmc entry top)
agrees_holding f base_lid lmc entry top seat cells agrees =
    let other : Fabric = holding f base_lid lmc entry top in
    record {
      guids_distinct = λ p q a b one two same.
          agrees.guids_distinct p q a b (end_there other f.base_lid f.lmc f.entry f.top seat p a one)
          (end_there other f.base_lid f.lmc f.entry f.top seat q b two) same;
      tells_end_ports = λ port node is. agrees.tells_end_ports port node (end_there other f.base_lid f.lmc f.entry f.top seat port node is);
      end_ports_exist = λ g p is. end_port_there f base_lid lmc entry top seat g p (agrees.end_ports_exist g p is);
      switches_exist = λ g is. end_port_there f base_lid lmc entry top seat g 0 (agrees.switches_exist g is);
      wires = λ g p h q. (
        λ is. wire_there f base_lid lmc entry top seat g p h q ((agrees.wires g p h q).0 is),
        λ has. (agrees.wires g p h q).1 (wire_there other f.base_lid f.lmc f.entry f.top seat g p h q has),
      );
    }

pub agrees_alike : (f g : Fabric) → f.nodes ≡ g.nodes → ◌≡◌ {A = NodePort → Option NodePort} f.across g.across → (seat : NodePort) (cells : Cells)
    → AgreesOn (IsJoinedTo f seat) cells f
    → AgreesOn (IsJoinedTo g seat) cells g
agrees_alike f g nodes cables seat cells agrees =
    let same : ◌≡◌ {A = Fabric} (holding f g.base_lid g.lmc g.entry g.top) g =
    λ j. record { nodes = nodes j; across = cables j; base_lid = g.base_lid; lmc = g.lmc; entry = g.entry; top = g.top } in
    subst (λ (x : Fabric). AgreesOn (IsJoinedTo x seat) cells x) same (agrees_holding f g.base_lid g.lmc g.entry g.top seat cells agrees)

-- while no cable changes ------------------------------------------------------------------------------------

node_seen : AgentNode → Node
node_seen n = record { guid = n.guid; kind = n.kind; ports = n.ports; cap = n.cap; port_guid = port_guid n }

seen_nodes : (agents : List Agent) → map node_seen (nodes_of agents) ≡ map node_of agents
unfolding node_seen
seen_nodes [] = refl
seen_nodes (a ∷ agents) = ap (λ l. node_of a ∷ l) (seen_nodes agents)

pub nodes_along : (start s : Simulation) → IsAlong start s → (fabric_of start).nodes ≡ (fabric_of s).nodes
nodes_along start s along = sym (seen_nodes start.agents) ∙ ap (map node_seen) (sym along.nodes) ∙ seen_nodes s.agents

pub end_port_along : (start s : Simulation) → IsAlong start s → (p : NodePort) → IsEndPort (fabric_of start) p → IsEndPort (fabric_of s) p
end_port_along start s along p end =
    subst (λ (nodes : List Node). (node : Node) × (slice_get nodes p.node ≡ Some node) × IsEndPortNumber node p.port) (nodes_along start s along) end

-- the simulated fabric has the nodes and cables that it had
pub agrees_along : (start s : Simulation) → IsAlong start s → (seat : NodePort) (cells : Cells)
    → AgreesOn (IsJoinedTo (fabric_of start) seat) cells (fabric_of start) → AgreesOn (IsJoinedTo (fabric_of s) seat) cells (fabric_of s)
agrees_along start s along seat cells agrees =
    agrees_alike (fabric_of start) (fabric_of s) (nodes_along start s along) (ap across (sym along.peers)) seat cells agrees
