-- What an agent answers with status 0 is true of the fabric.
use Rattle.std.proofs.Common.{◌≡◌, ◌≢◌, inl, inr, ℕ, zero, suc, ◌≤◌, Bool, true, false, cond, List, refl, sym, ap, ◌∙◌, subst, arith}
use Rattle.std.proofs.lemmas.Bool.{and_parts, and_from, leb-true, le-leb}
use Rattle.std.proofs.lemmas.Option.{same_Some, slice_get-map}
use Rattle.std.specs.Prelude.{Option, Some, None, option_map, slice_get, nat_le, ◌==◌, ◌||◌}
use Rattle.std.specs.Option.{option_map_or}
use Rattle.fabric_model.specs.declared.cable.NodePort.{NodePort}
use Rattle.smp_bytes.specs.Header.{port_info}
use Rattle.smp_bytes.specs.Field.{number_in, bits_in, bytes_in}
use Rattle.smp_bytes.specs.Packet.{attribute_id, attribute_modifier, attribute_data}
use Rattle.attr_codec.specs.declared.node_info.NodeInfo.{NodeInfo}
use Rattle.attr_codec.specs.declared.port_state.PortState.{PortState}
use Rattle.attr_codec.specs.declared.port_state.PortState.TheVariants.{NoChange, Down, Initialize, Armed, Active}
use Rattle.attr_codec.specs.PortInfo.{port_state, number_of_state}
use Rattle.node_agents.specs.declared.agent_node.AgentNode.{AgentNode}
use Rattle.node_agents.specs.Agent.{Agent, IsAgent, is_switch, node_of, state_at}
use Rattle.node_agents.specs.PortInfo.{port_meant}
use Rattle.node_agents.specs.Answers.{after_answer}
use Rattle.node_agents.specs.AnswerLaws as agents
use Rattle.node_agents.proofs.Says.{answers_say}
use Rattle.node_agents.proofs.Sets.{meant_fits}
use Rattle.fabric_sim.specs.declared.flight.Flight.{Flight}
use Rattle.fabric_sim.specs.Simulation.{Simulation, IsSimulation, agent_at, port_count, across, fabric_of, is_cable_port, port_of}
use Rattle.fabric_sim.specs.Delivery.{answer_at}
use Rattle.fabric_sim.specs.ToldOfEnd.{IsUp, IsUpState, port_asked, SaysPort, SaysOf}
use Rattle.fabric_sim.proofs.Courses.{AnySends, SaysSo}
use Rattle.fabric_sim.proofs.Traced.{IsRequestFor}
use Rattle.fabric_sim.proofs.TracedCalls.{IsAskedBy}
use Rattle.fabric_sim.proofs.TripEnds.{agent_by_port}
use Rattle.fabric_sim.proofs.TripShapes.{IsAlong, agent_there, port_count_stays}
use Rattle.fabric_sim.proofs.TripsOut.{IsPortOf}

-- what an agent says is so of the fabric -------------------------------------------------------

-- the node of an agent is that of the fabric at the beginning
node_there : {start s : Simulation} → IsAlong start s → (id : ℕ) (a : Agent) → agent_at s id ≡ Some a
    → (b : Agent) × (agent_at start id ≡ Some b) × (b.node ≡ a.node)
node_there {start = start} {s = s} along id a there = by_start (slice_get start.agents id) refl
  where
    named : option_map (λ (x : Agent). x.node) (slice_get start.agents id) ≡ Some a.node
    named =
        sym (slice_get-map (λ (x : Agent). x.node) start.agents id)
        ∙ ap (λ ns. slice_get ns id) (sym along.nodes)
        ∙ slice_get-map (λ (x : Agent). x.node) s.agents id
        ∙ ap (option_map (λ (x : Agent). x.node)) there

    by_start : (m : Option Agent) → slice_get start.agents id ≡ m → (b : Agent) × (agent_at start id ≡ Some b) × (b.node ≡ a.node)
    by_start None e = absurd (cc (sym (ap (option_map (λ (x : Agent). x.node)) e) ∙ named))
    by_start (Some b) e = (b, e, same_Some b.node a.node (sym (ap (option_map (λ (x : Agent). x.node)) e) ∙ named))

-- the numbers of states
state_is_up : (state : PortState) → state ≢ NoChange → state ≢ Down → IsUpState (number_of_state state)
state_is_up NoChange known up = absurd (known refl)
state_is_up Down known up = absurd (up refl)
state_is_up Initialize known up = (omega arith, omega arith)
state_is_up Armed known up = (omega arith, omega arith)
state_is_up Active known up = (omega arith, omega arith)

state_not_down : (state : PortState) → IsUpState (number_of_state state) → state ≢ Down
state_not_down NoChange up e = absurd (omega (arith, up.0))
state_not_down Down up e = absurd (omega (arith, up.0))
state_not_down Initialize up e = cc
state_not_down Armed up e = cc
state_not_down Active up e = cc

meant_by : (at_switch inside asked : Bool) (modifier arrival port : ℕ)
    → cond at_switch (cond inside (Some modifier) None) (cond asked (Some arrival) None) ≡ Some port → port ≡ cond at_switch modifier arrival
meant_by true true asked modifier arrival port h = sym (same_Some modifier port h)
meant_by true false asked modifier arrival port h = cc
meant_by false inside true modifier arrival port h = sym (same_Some arrival port h)
meant_by false inside false modifier arrival port h = cc

meant_is : (a : Agent) (modifier arrival port : ℕ) → port_meant a modifier arrival ≡ Some port → port ≡ port_asked (node_of a) modifier arrival
meant_is a modifier arrival port h = meant_by (is_switch a) (nat_le modifier a.node.ports) (modifier == 0 || modifier == arrival) modifier arrival port h

module _ {start s : Simulation} (along : IsAlong start s) (is : IsSimulation s) (p : NodePort) (within : IsPortOf start p) (a : Agent)
    (there : agent_at s p.node ≡ Some a) where
  count_is : port_count s p.node ≡ a.node.ports
  count_is = ap (λ o. option_map_or (λ (x : Agent). x.node.ports) o 0) there

  is_agent : IsAgent a
  is_agent = agent_there s.agents p.node a along.agents there

  upto : p.port ≤ a.node.ports
  upto = let most = within.most in omega (arith, count_is, most, port_count_stays along p.node)

  -- a port of the node is down exactly where no cable is in it
  module _ (port : ℕ) (fits : port ≤ a.node.ports) where
    is_cabled : 1 ≤ port → is_cable_port s (record { node = p.node; port = port }) ≡ true
    is_cabled some = and_from _ _ (le-leb 1 port some) (le-leb port (port_count s p.node) (omega (arith, fits, count_is)))

    cable_in : 1 ≤ port → state_at a port ≢ Down → (far : NodePort) × (across start.peers (record { node = p.node; port = port }) ≡ Some far)
    cable_in some up = by_cable (across s.peers (record { node = p.node; port = port })) refl
      where
        by_cable : (m : Option NodePort) → across s.peers (record { node = p.node; port = port }) ≡ m
            → (far : NodePort) × (across start.peers (record { node = p.node; port = port }) ≡ Some far)
        by_cable None e = absurd (up ((is.cables.down (record { node = p.node; port = port }) a there (is_cabled some)).1 e))
        by_cable (Some far) e = (far, ap (λ ps. across ps (record { node = p.node; port = port })) (sym along.peers) ∙ e)

    up_by_cable : (far : NodePort) → across start.peers (record { node = p.node; port = port }) ≡ Some far → state_at a port ≢ Down
    up_by_cable far wire down =
        let here = ap (λ ps. across ps (record { node = p.node; port = port })) along.peers ∙ wire in
        let cabled = is.cables.ends _ far here in
        absurd (cc (sym ((is.cables.down (record { node = p.node; port = port }) a there cabled).0 down) ∙ here))

  module _ (answer : List ℕ) (says : agents.Says a p.port answer) where
    port_said : number_in attribute_id answer ≡ port_info
        → SaysPort (fabric_of start) p.node (node_of a) (port_asked (node_of a) (number_in attribute_modifier answer) p.port)
        (bits_in port_state (bytes_in attribute_data answer))
    port_said e =
        let said = says.port e in
        let port_is = meant_is a (number_in attribute_modifier answer) p.port said.port said.meant in
        let fits = meant_fits a (number_in attribute_modifier answer) p.port said.port upto said.meant in
        subst (λ n. SaysPort (fabric_of start) p.node (node_of a) n (bits_in port_state (bytes_in attribute_data answer))) port_is
        (record {
          within = fits;
          up = (
            λ up. is_up said.port fits port_is (λ d. state_not_down said.state (subst IsUpState said.number_is up) (said.down.1 d)),
            λ up. subst IsUpState (sym said.number_is) (state_is_up said.state said.known (λ d. not_down said.port fits up (said.down.0 d))),
          );
        })
      where
        is_up : (port : ℕ) → port ≤ a.node.ports → port ≡ port_asked (node_of a) (number_in attribute_modifier answer) p.port → state_at a port ≢ Down
            → IsUp (fabric_of start) p.node (node_of a) port
        is_up zero fits is_it up = by_kind (is_switch a) refl
          where
            by_kind : (b : Bool) → is_switch a ≡ b → IsUp (fabric_of start) p.node (node_of a) 0
            by_kind true e = inl (e, refl)
            by_kind false e =
                let asked : 0 ≡ p.port = is_it ∙ ap (λ b. cond b (number_in attribute_modifier answer) p.port) e in
                let one = within.some in
                absurd (omega (arith, asked, one))
        is_up (suc port) fits is_it up = inr (cable_in (suc port) fits (omega arith) up)

        not_down : (port : ℕ) → port ≤ a.node.ports → IsUp (fabric_of start) p.node (node_of a) port → state_at a port ≢ Down
        not_down port fits (inl (switch, zero_is)) down =
            let active : state_at a port ≡ Active = ap (state_at a) zero_is ∙ is_agent.port_zero switch in
            cc (sym active ∙ down)
        not_down port fits (inr (far, wire)) down = up_by_cable port fits far wire down

    said_of : SaysOf (fabric_of start) p answer
    said_of =
        let (b, at, same) = node_there along p.node a there in
        record {
          node = node_of a;
          there = slice_get-map node_of start.agents p.node ∙ ap (option_map node_of) at ∙ ap (λ (n : AgentNode). Some (node_of (record a { node = n }))) same;
          node_info = λ e. let said = says.node e in record {
            guid = ap (λ (i : NodeInfo). i.node_guid) said;
            kind = ap (λ (i : NodeInfo). i.node_type) said;
            ports = ap (λ (i : NodeInfo). i.num_ports) said;
            port_guid = ap (λ (i : NodeInfo). i.port_guid) said;
            local_port = ap (λ (i : NodeInfo). i.local_port_num) said;
          };
          port_info = port_said;
          switch_info = λ e. let said = says.switch e in record { kind = said.kind; cap = said.cap_is };
        }

-- the agent's answer to a request that came to the end of its path
pub agents_say : {start s : Simulation} → IsAlong start s → IsSimulation s → (n : ℕ) (flight : Flight) (request : List ℕ) → IsAskedBy s n flight request
    → (r : IsRequestFor AnySends (SaysSo start) start (port_of flight.whereabouts) request)
    → SaysSo start r.origin (port_of flight.whereabouts) (answer_at s (port_of flight.whereabouts) request)
agents_say {start = start} {s = s} along is n flight request asked r =
    subst (SaysSo start r.origin p) (sym (ap (λ o. option_map_or (λ x. (after_answer x request p.port).packet) o request) a.1))
    (λ done_is. said_of along is p r.within a.0 a.1 (after_answer a.0 request p.port).packet
    (answers_say a.0 request p.port (agent_there s.agents p.node a.0 along.agents a.1) asked.whole (upto along is p r.within a.0 a.1) done_is))
  where
    p : NodePort
    p = port_of flight.whereabouts

    a : (x : Agent) × (agent_at s (port_of flight.whereabouts).node ≡ Some x)
    a =
        let parts = and_parts (nat_le 1 p.port) (nat_le p.port (port_count s p.node)) asked.port in
        let from_one : 1 ≤ p.port = leb-true _ _ parts.0 in
        let to_count : p.port ≤ port_count s p.node = leb-true _ _ parts.1 in
        agent_by_port s p.node (omega (arith, from_one, to_count))
