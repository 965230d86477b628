-- Agents that are made, wired and given a subnet manager.
use Rattle.std.proofs.Common.{◌≡◌, ◌≢◌, ℕ, zero, suc, ◌*◌, Bool, true, false, List, ◌∷◌, inl, refl, sym, ap, ◌∙◌, arith, length}
use Rattle.std.specs.Prelude.{All, if◌then◌else◌}
use Rattle.std.proofs.lemmas.List.{length-replicate, length-set, get_or-set_other}
use Rattle.std.proofs.lemmas.List.Elements.{All-set, All-replicate}
use Rattle.smp_bytes.specs.NodeType as types
use Rattle.attr_codec.specs.declared.port_state.PortState.{PortState}
use Rattle.attr_codec.specs.declared.port_state.PortState.TheVariants.{NoChange, Down, Initialize, Active}
use Rattle.node_agents.specs.declared.agent_node.AgentNode.{AgentNode}
use Rattle.node_agents.specs.declared.port.Port.{Port}
use Rattle.node_agents.specs.Agent.{Agent, IsAgentNode, IsAgent, IsPort, is_switch, port_in, with_port, block_count, fresh_agent, position_count}
use Rattle.node_agents.specs.AnswerLaws.{AgentsAreMade}
use Rattle.node_agents.proofs.Shapes.{is_port_at}

fresh_state : Bool → PortState
fresh_state b = if b then Active else Down

is_port-fresh : (node : AgentNode) (state : PortState) → state ≢ NoChange → IsPort node.kind (port_in state)
is_port-fresh node state known = record { state = known; base_lid = omega arith; is_sm = λ h. refl }

chosen_known : (b : Bool) → (if b then Active else Down) ≢ NoChange
chosen_known true e = cc
chosen_known false e = cc

all-cons : (P : Port → Type 0) (x : Port) (xs : List Port) → P x → All P xs → All P (x ∷ xs)
all-cons P x xs p ps zero d h = p
all-cons P x xs p ps (suc k) d h = ps k d (omega arith)

fresh_is : (node : AgentNode) → IsAgentNode node → length node.description ≡ 64 → IsAgent (fresh_agent node)
unfolding fresh_agent
fresh_is node is long =
    record {
      node = is;
      description = long;
      count = let n = length-replicate node.ports (port_in Down) in omega arith;
      ports = all-cons (IsPort node.kind) _ _ (is_port-fresh node _ (chosen_known (types.is_switch node.kind)))
          (All-replicate (IsPort node.kind) node.ports (port_in Down) (is_port-fresh node Down (λ e. cc)));
      port_zero = λ h. ap (λ (b : Bool). if b then Active else Down) h;
      table = length-replicate (64 * block_count node.cap) 255;
      top = inl refl;
      masks = length-replicate (64 * position_count node) 0;
    }

-- a port from 1 on, or of an adapter, is written
with_port_is : (a : Agent) (port : ℕ) (new : Port) → IsAgent a → IsPort a.node.kind new → (is_switch a ≡ true → port ≢ 0) → IsAgent (with_port a port new)
with_port_is a port new is good apart =
    record {
      node = is.node;
      description = is.description;
      count = length-set a.ports port new ∙ is.count;
      ports = All-set (IsPort a.node.kind) a.ports port new good is.ports;
      port_zero = λ h. let other : 0 ≢ port = λ e. apart h (sym e) in
          ap (λ (p : Port). p.state) (get_or-set_other a.ports port 0 new (port_in Down) other) ∙ is.port_zero h;
      table = is.table;
      top = is.top;
      masks = is.masks;
    }

wired_known : (b : Bool) → (if b then Initialize else Down) ≢ NoChange
wired_known true e = cc
wired_known false e = cc

pub agents_are_made : AgentsAreMade
agents_are_made =
    record {
      fresh = fresh_is;
      wired = λ a port is_wired is least.
          let old = is_port_at a is port in
          with_port_is a port _ is (record { state = wired_known is_wired; base_lid = old.base_lid; is_sm = old.is_sm }) (λ h e. absurd (omega arith));
      seated = λ a port is adapter.
          let old = is_port_at a is port in
          let no_switch : is_switch a ≡ true → ⊥ = λ h. let clash : true ≡ false = sym h ∙ adapter in cc in
          with_port_is a port _ is (record { state = old.state; base_lid = old.base_lid; is_sm = λ h. absurd (no_switch h) }) (λ h e. no_switch h);
    }
