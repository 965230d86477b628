-- A fabric that holds LIDs and a table: an adapter, at a switch to which another adapter is wired; a manager may sit at each adapter.
use Rattle.std.proofs.Common.{inr, ℕ, zero, suc, ◌<◌, List, [], ◌∷◌, replicate}
use Rattle.std.proofs.Common.{refl, sym, ◌∙◌, subst, arith}
use Rattle.std.proofs.lemmas.Option.{same_Some}
use Rattle.std.proofs.lemmas.List.Elements.{All-from_recursion}
use Rattle.std.specs.Prelude.{All, slice_index_or}
use Rattle.smp_bytes.specs.declared.node_type.NodeType.TheVariants.{ChannelAdapter}
use Rattle.smp_bytes.specs.LidRange.{lid_end}
use Rattle.fabric_model.specs.declared.cable.NodePort.{NodePort}
use Rattle.fabric_model.specs.Fabric.{IsEndPortNumber, IsNodeAt, Node}
use Rattle.subnet_view.specs.FabricAgreement.{IsEndPortIn, Part}
use Rattle.node_agents.specs.Agent.{Agent, IsAgent, fresh_agent, node_of, port_at, with_port}
use Rattle.node_agents.proofs.PortSteps.{stays}
use Rattle.node_agents.proofs.Shapes.{Keeps, keeps-with_port}
use Rattle.fabric_sim.specs.Simulation.{Simulation, IsSimulation, fabric_of}
use Rattle.fabric_sim.specs.Changes.{cabled_at}
use Rattle.fabric_sim.proofs.AgentLists.{AllRelated, KeepsDown, NoNewSeats, keeps_down_from_shape, seats_before}
use Rattle.fabric_sim.proofs.Invariants.{with_agents}
use Rattle.manager_laws.specs.Truth.{AreGuidsDistinct}
use Rattle.manager_laws.proofs.ExampleFabric.{bare, distinct_by, is_bare}
use Rattle.manager_laws.proofs.Planned.{end_number}

-- what they hold: LIDs 2, 5 and 7, and at the switch the ways to them
abbrev pub with_lid : Agent → ℕ → ℕ → Agent
with_lid a p lid = with_port a p (record (port_at a p) { base_lid = lid })

abbrev pub table : List ℕ
table = 255 ∷ 255 ∷ 1 ∷ 255 ∷ 255 ∷ 0 ∷ 255 ∷ 2 ∷ replicate 56 255

abbrev nobody : Agent
nobody = fresh_agent (record { guid = 0; kind = ChannelAdapter; ports = 1; cap = 0; description = [] })

abbrev pub bare_agent : ℕ → Agent
bare_agent id = slice_index_or bare.agents id nobody

abbrev pub first_agent : Agent
first_agent = with_lid (bare_agent 0) 1 2

abbrev pub switch_agent : Agent
switch_agent = record (with_lid (bare_agent 1) 0 5) { table = table; top = 7 }

abbrev pub last_agent : Agent
last_agent = with_lid (bare_agent 2) 1 7

abbrev pub agents : List Agent
agents = first_agent ∷ switch_agent ∷ last_agent ∷ []

abbrev pub network : Simulation
network = record bare { agents = agents }

-- with another LID at a port an agent is what it was
lid_kept : (a : Agent) (p lid : ℕ) → lid < lid_end → Keeps a (with_lid a p lid)
lid_kept a p lid low =
    keeps-with_port a p (record (port_at a p) { base_lid = lid }) (record { state = stays (port_at a p).state; base_lid = λ _. low; is_sm = refl })

first_kept : Keeps (bare_agent 0) first_agent
first_kept = lid_kept (bare_agent 0) 1 2 (omega arith)

switch_kept : Keeps (bare_agent 1) switch_agent
unfolding cabled_at fresh_agent
switch_kept =
    let kept = lid_kept (bare_agent 1) 0 5 (omega arith) in
    record {
      shape = record { node = kept.shape.node; down = kept.shape.down; seats = kept.shape.seats };
      is_agent = λ is. let now = kept.is_agent is in
          record {
            node = now.node;
            description = now.description;
            count = now.count;
            ports = now.ports;
            port_zero = now.port_zero;
            table = refl;
            top = inr (omega arith);
            masks = refl;
          };
    }

last_kept : Keeps (bare_agent 2) last_agent
last_kept = lid_kept (bare_agent 2) 1 7 (omega arith)

are_agents : All IsAgent agents
unfolding cabled_at fresh_agent
are_agents =
    let was = λ (id : ℕ) (less : id < 3). is_bare.agents id nobody less in
    All-from_recursion IsAgent agents
    (first_kept.is_agent (was 0 (omega arith)), (switch_kept.is_agent (was 1 (omega arith)), (last_kept.is_agent (was 2 (omega arith)), tt)))

all_keep : AllRelated KeepsDown bare.agents agents
unfolding cabled_at fresh_agent
all_keep zero = keeps_down_from_shape _ _ first_kept.shape
all_keep (suc zero) = keeps_down_from_shape _ _ switch_kept.shape
all_keep (suc (suc zero)) = keeps_down_from_shape _ _ last_kept.shape
all_keep (suc (suc (suc id))) = tt

none_new : AllRelated NoNewSeats bare.agents agents
unfolding cabled_at fresh_agent
none_new zero = record { seats = λ port h. sym (first_kept.shape.seats port) ∙ h }
none_new (suc zero) = record { seats = λ port h. sym (switch_kept.shape.seats port) ∙ h }
none_new (suc (suc zero)) = record { seats = λ port h. sym (last_kept.shape.seats port) ∙ h }
none_new (suc (suc (suc id))) = tt

pub is_network : IsSimulation network
unfolding cabled_at fresh_agent
is_network =
    with_agents bare agents is_bare refl are_agents all_keep (λ p h. is_bare.seats p (seats_before bare.agents agents none_new p h))

pub distinct : AreGuidsDistinct (fabric_of network)
unfolding cabled_at fresh_agent
distinct = distinct_by (fabric_of network) refl

-- what is so at the three end ports is so at each
module _ (P : ℕ → ℕ → Node → Type 0) (first : P 0 1 (node_of first_agent)) (switch : P 1 0 (node_of switch_agent)) (last : P 2 1 (node_of last_agent)) where
  by_port : (id p : ℕ) (node : Node) → IsNodeAt (fabric_of network) id node → IsEndPortNumber node p → P id p node
  unfolding cabled_at fresh_agent
  by_port zero p node there number =
      subst (λ (n : Node). P 0 p n) (same_Some _ _ there) (at p (subst (λ (n : Node). IsEndPortNumber n p) (sym (same_Some _ _ there)) number))
    where
      at : (p : ℕ) → IsEndPortNumber (node_of first_agent) p → P 0 p (node_of first_agent)
      at zero within = absurd (omega (arith, within.0))
      at (suc zero) within = first
      at (suc (suc p)) within = absurd (omega (arith, within.1))
  by_port (suc zero) p node there number =
      subst (λ (n : Node). P 1 p n) (same_Some _ _ there) (at p (subst (λ (n : Node). IsEndPortNumber n p) (sym (same_Some _ _ there)) number))
    where
      at : (p : ℕ) → IsEndPortNumber (node_of switch_agent) p → P 1 p (node_of switch_agent)
      at zero is = switch
      at (suc p) is = absurd (omega (arith, is))
  by_port (suc (suc zero)) p node there number =
      subst (λ (n : Node). P 2 p n) (same_Some _ _ there) (at p (subst (λ (n : Node). IsEndPortNumber n p) (sym (same_Some _ _ there)) number))
    where
      at : (p : ℕ) → IsEndPortNumber (node_of last_agent) p → P 2 p (node_of last_agent)
      at zero within = absurd (omega (arith, within.0))
      at (suc zero) within = last
      at (suc (suc p)) within = absurd (omega (arith, within.1))
  by_port (suc (suc (suc n))) p node there number = absurd (cc)

  pub at_end_ports : (part : Part) (q : NodePort) (node : Node) → IsEndPortIn part (fabric_of network) q node → P q.node q.port node
  at_end_ports part q node is = by_port q.node q.port node is.node_there (end_number part (fabric_of network) q node is)
