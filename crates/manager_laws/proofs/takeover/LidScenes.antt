-- While no LID changes, each answer of PortInfo on its way, or handed up, tells the LID that its port has.
use Rattle.std.proofs.Common.{◌≡◌, inl, inr, ℕ, ◌^◌, ◌<◌, ◌≤◌, true, cond, List, length, refl, sym, ap, ◌∙◌, subst, arith}
use Rattle.std.proofs.lemmas.Bool.{cond_both, and_parts, leb-true}
use Rattle.std.proofs.lemmas.Option.{same_Some, slice_get-map}
use Rattle.std.specs.Prelude.{Option, Some, None, option_map, slice_get, nat_le}
use Rattle.std.specs.Option.{option_map_or}
use Rattle.smp_bytes.specs.NodeType as types
use Rattle.fabric_model.specs.declared.cable.NodePort.{NodePort}
use Rattle.smp_bytes.specs.Header.{done, port_info, sm_info}
use Rattle.smp_bytes.specs.Field.{number_in, bytes_in}
use Rattle.smp_bytes.specs.Packet.{attribute_id, attribute_modifier, attribute_data, status}
use Rattle.smp_bytes.specs.Requests.{answer_packet}
use Rattle.fabric_model.specs.Fabric as fabric
use Rattle.fabric_model.specs.Fabric.{IsNodeAt}
use Rattle.smp_bytes.proofs.FieldLaws.{number_in-alike}
use Rattle.attr_codec.specs.PortInfo.{base_lid}
use Rattle.node_agents.specs.declared.agent_node.AgentNode.{AgentNode}
use Rattle.node_agents.specs.Agent.{Agent, node_of, base_lid_at}
use Rattle.node_agents.specs.Answers.{after_answer}
use Rattle.fabric_sim.specs.declared.packet.Packet.{Packet}
use Rattle.fabric_sim.specs.Simulation.{Simulation, AreCables, agent_at, port_count, port_of, fabric_of, is_cable_port, is_seat_at}
use Rattle.fabric_sim.specs.Delivery.{answer_at, after_deliver}
use Rattle.fabric_sim.specs.ToldOfEnd.{port_asked}
use Rattle.fabric_sim.specs.declared.flight.Flight.{Flight}
use Rattle.fabric_sim.proofs.AgentLists.{changed_at_id}
use Rattle.fabric_sim.proofs.Courses.{AnySends}
use Rattle.fabric_sim.proofs.Traced.{IsRequestFor, IsOnCourse, IsForManager}
use Rattle.fabric_sim.proofs.TracedCalls.{AreTraced, IsAskedBy, deliveries_trace, deliveries_hand_up_traced, emissions_trace, injections_trace, copies_trace, losses_trace}
use Rattle.fabric_sim.proofs.TripEnds.{agent_by_port}
use Rattle.fabric_sim.proofs.TripShapes.{IsAlong, agent_there}
use Rattle.manager_laws.specs.Scene.{Handed, Scene, ByLid, ByPath, Answer, Event, Deliver, Lose, Repeat, Send, Emit, CanHappen, emitted_from, sent_from, asks_manager, answer_to, answered_from, after_event}
use Rattle.manager_laws.proofs.Answers.{Continues, bytes_answered, cabled_in_port, seat_in_port}
use Rattle.manager_laws.proofs.TracedScenes as traced
use Rattle.manager_laws.proofs.takeover.LidsTold.{lid_told}

-- an answer of PortInfo that was done tells the LID of the port that it is about
abbrev pub LidSo : Simulation → NodePort → NodePort → List ℕ → Type 0
LidSo start origin end answer =
    status answer ≡ done → number_in attribute_id answer ≡ port_info → (node : fabric.Node) → IsNodeAt (fabric_of start) end.node node
    → number_in base_lid (bytes_in attribute_data answer)
    ≡ (fabric_of start).base_lid (record { node = end.node; port = port_asked node (number_in attribute_modifier answer) end.port })

-- the LIDs are what they were
abbrev pub SameLids : Simulation → Simulation → Type 0
SameLids start s = (p : NodePort) → (fabric_of s).base_lid p ≡ (fabric_of start).base_lid p

pub record LidsKnown (start : Simulation) (w : Scene) : Type 0 where
  pub flights : AreTraced AnySends (LidSo start) start w.fabric.flights
  pub handed : traced.WereTraced AnySends (LidSo start) start w.handed

module _ {start : Simulation} (cables : AreCables start) (counts : (id : ℕ) → port_count start id ≤ 254) where
  module _ (s : Simulation) (along : IsAlong start s) (n : ℕ) (lids : SameLids start (after_deliver s n).fabric) (flight : Flight) (request : List ℕ)
      (asked : IsAskedBy s n flight request) where
    agent : (x : Agent) × (agent_at s (port_of flight.whereabouts).node ≡ Some x)
    agent =
        let parts = and_parts (nat_le 1 (port_of flight.whereabouts).port)
        (nat_le (port_of flight.whereabouts).port (port_count s (port_of flight.whereabouts).node)) asked.port in
        let from_one : 1 ≤ (port_of flight.whereabouts).port = leb-true _ _ parts.0 in
        let to_count : (port_of flight.whereabouts).port ≤ port_count s (port_of flight.whereabouts).node = leb-true _ _ parts.1 in
        agent_by_port s (port_of flight.whereabouts).node (omega (arith, from_one, to_count))

    -- the node is as it was built
    kind_same : (node : fabric.Node) → IsNodeAt (fabric_of start) (port_of flight.whereabouts).node node → node.kind ≡ agent.0.node.kind
    kind_same node there =
        let named : option_map (λ (x : Agent). x.node) (slice_get start.agents (port_of flight.whereabouts).node) ≡ Some agent.0.node =
        sym (slice_get-map (λ (x : Agent). x.node) start.agents (port_of flight.whereabouts).node)
        ∙ ap (λ ns. slice_get ns (port_of flight.whereabouts).node) (sym along.nodes)
        ∙ slice_get-map (λ (x : Agent). x.node) s.agents (port_of flight.whereabouts).node
        ∙ ap (option_map (λ (x : Agent). x.node)) agent.1 in
        by_start (slice_get start.agents (port_of flight.whereabouts).node) named (sym (slice_get-map node_of start.agents (port_of flight.whereabouts).node)
        ∙ there)
      where
        by_start : (m : Option Agent) → option_map (λ (x : Agent). x.node) m ≡ Some agent.0.node → option_map node_of m ≡ Some node → node.kind
            ≡ agent.0.node.kind
        by_start None e h = absurd (cc)
        by_start (Some b) e h =
            ap (λ (x : fabric.Node). x.kind) (sym (same_Some (node_of b) node h)) ∙ ap (λ (x : AgentNode). x.kind) (same_Some b.node agent.0.node e)

    told_by : (m : Option Agent) → m ≡ Some agent.0 → LidSo start (port_of flight.whereabouts) (port_of flight.whereabouts)
        (option_map_or (λ x. (after_answer x request (port_of flight.whereabouts).port).packet) m request)
    told_by m e = subst
        (λ o. LidSo start (port_of flight.whereabouts) (port_of flight.whereabouts)
        (option_map_or (λ x. (after_answer x request (port_of flight.whereabouts).port).packet) o request)) (sym e) of_agent
      where
        of_agent : LidSo start (port_of flight.whereabouts) (port_of flight.whereabouts) (after_answer agent.0 request (port_of flight.whereabouts).port).packet
        of_agent status_is attribute node there =
            let a = agent.0 in
            let at = port_of flight.whereabouts in
            let told = lid_told a request at.port (agent_there s.agents at.node a along.agents agent.1) asked.whole status_is attribute in
            let after : agent_at (after_deliver s n).fabric at.node ≡ Some (after_answer a request at.port).agent =
            ap (λ (xs : List Agent). slice_get xs at.node) asked.agents
            ∙ changed_at_id s.agents at.node a (λ x. (after_answer x request at.port).agent) agent.1 in
            let modifier = number_in attribute_modifier (after_answer a request at.port).packet in
            let port = port_asked (node_of a) modifier at.port in
            let held : (fabric_of (after_deliver s n).fabric).base_lid (record { node = at.node; port = port })
            ≡ base_lid_at (after_answer a request at.port).agent port =
            ap (λ o. option_map_or (λ x. base_lid_at x port) o 0) after in
            told ∙ sym held ∙ lids (record { node = at.node; port = port })
            ∙ ap (λ k. (fabric_of start).base_lid (record { node = at.node; port = cond (types.is_switch k) modifier at.port })) (sym (kind_same node there))

    pub agent_tells : (r : IsRequestFor AnySends (LidSo start) start (port_of flight.whereabouts) request)
        → LidSo start r.origin (port_of flight.whereabouts) (answer_at s (port_of flight.whereabouts) request)
    agent_tells r = told_by (agent_at s (port_of flight.whereabouts).node) agent.1

  -- events ----------------------------------------------------------------------------------------

  pub sends_known : (w : Scene) (seat : NodePort) (packet : Packet) → Continues start w → LidsKnown start w
      → (is_seat_at w.fabric seat ≡ true → IsOnCourse AnySends (LidSo start) start seat packet.bytes) → LidsKnown start (sent_from w seat packet)
  sends_known w seat packet c k on =
      record {
        flights = injections_trace AnySends (LidSo start) cables counts c.fabric.along c.fabric.is k.flights seat packet on;
        handed = k.handed;
      }

  emits_known : (w : Scene) (at : NodePort) (packet : Packet) → Continues start w → LidsKnown start w
      → (is_cable_port w.fabric at ≡ true → IsOnCourse AnySends (LidSo start) start at packet.bytes) → LidsKnown start (emitted_from w at packet)
  emits_known w at packet c k on =
      record {
        flights = emissions_trace AnySends (LidSo start) cables counts c.fabric.along c.fabric.is k.flights at packet on;
        handed = k.handed;
      }

  manager_known : (h : Handed) (given : ℕ) (payload : List ℕ) (origin : NodePort) → number_in attribute_id (answer_packet h.packet.bytes given payload)
      ≡ sm_info
      → LidSo start origin h.at (answer_packet h.packet.bytes given payload)
  manager_known h given payload origin is_sm_info status_is attribute node there =
      let clash : sm_info ≡ port_info = sym is_sm_info ∙ attribute in absurd (omega (arith, clash))

  answers_known : (w : Scene) (seat : NodePort) (given : ℕ) (payload : List ℕ) (m : Option Handed) → Continues start w → LidsKnown start w → given < 2 ^ 15
      → length payload ≡ 64 → ((h : Handed) → m ≡ Some h → IsForManager AnySends (LidSo start) start h.at h.packet.bytes)
      → LidsKnown start (answered_from w seat given payload m)
  answers_known w seat given payload None c k small whole was = k
  answers_known w seat given payload (Some h) c k small whole was =
      cond_both (asks_manager seat h) _ _ (LidsKnown start)
      (λ asks. sends_known w seat (answer_to h.packet given payload) c k
      (λ _. subst (IsOnCourse AnySends (LidSo start) start seat) (sym (bytes_answered h.packet given payload))
      (traced.manager_traced AnySends (LidSo start) start cables counts h seat given payload (was h refl) small whole asks
      (λ r is_sm_info holds. manager_known h given payload r.origin
      (number_in-alike attribute_id (answer_packet h.packet.bytes given payload) h.packet.bytes
      (λ id from less. holds.kept id (inr (inl (omega (arith, from), omega (arith, less))))) ∙ is_sm_info)))))
      (λ _. k)

  pub event_known : (w : Scene) (event : Event) → Continues start w → LidsKnown start w → CanHappen event → SameLids start (after_event w event).fabric
      → LidsKnown start (after_event w event)
  event_known w (Deliver n) c k can lids =
      record {
        flights = deliveries_trace AnySends (LidSo start) cables counts c.fabric.along c.fabric.is k.flights n (agent_tells w.fabric c.fabric.along n lids);
        handed = traced.traced_more AnySends (LidSo start) start w.handed _ k.handed
            (traced.traced_by AnySends (LidSo start) start (after_deliver w.fabric n).result
            (deliveries_hand_up_traced AnySends (LidSo start) cables counts c.fabric.along c.fabric.is k.flights n));
      }
  event_known w (Lose n) c k can lids =
      record { flights = losses_trace AnySends (LidSo start) cables counts c.fabric.along c.fabric.is k.flights n; handed = k.handed }
  event_known w (Repeat n) c k can lids =
      record { flights = copies_trace AnySends (LidSo start) cables counts c.fabric.along c.fabric.is k.flights n; handed = k.handed }
  event_known w (Send seat (ByLid packet)) c k can lids =
      sends_known w seat packet c k (λ _. traced.other_traced AnySends (LidSo start) start seat packet.bytes can.0 can.1)
  event_known w (Send seat (ByPath method attribute modifier tid path payload)) c k (fits, low, short, own) lids =
      sends_known w seat _ c k (λ there. traced.sent_traced AnySends (LidSo start) start seat method attribute modifier tid path payload fits low short own
      (seat_in_port cables counts w.fabric c.fabric seat there) tt)
  event_known w (Send seat (Answer which given payload)) c k (small, whole) lids =
      answers_known w seat given payload (slice_get w.handed which) c k small whole
      (λ h e. traced.traced_there AnySends (LidSo start) start w.handed which h k.handed e)
  event_known w (Emit at (ByLid packet)) c k (can, sets) lids =
      emits_known w at packet c k (λ _. traced.other_traced AnySends (LidSo start) start at packet.bytes can.0 can.1)
  event_known w (Emit at (ByPath method attribute modifier tid path payload)) c k ((fits, low, short, own), sets) lids =
      emits_known w at _ c k (λ there. traced.sent_traced AnySends (LidSo start) start at method attribute modifier tid path payload fits low short own
      (cabled_in_port cables counts w.fabric c.fabric at there) tt)
  event_known w (Emit at (Answer which given payload)) c k can lids = absurd can
