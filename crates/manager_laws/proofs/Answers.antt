-- Whatever happens, each directed packet that comes back tells of the end of its path.
use Rattle.std.proofs.Common.{◌≡◌, inl, inr, ℕ, ◌/◌, ◌%◌, ◌^◌, ◌<◌, ◌≤◌, true, List, [], ◌∷◌, length, refl, sym, ap, ◌∙◌, subst, arith}
use Rattle.std.proofs.lemmas.Bool.{cond_both, and_parts, leb-true}
use Rattle.std.proofs.lemmas.Option.{slice_get-map}
use Rattle.std.proofs.lemmas.List.Elements.{All-nil, All-head, All-tail, All-cons}
use Rattle.std.specs.Prelude.{Option, Some, None, All, option_map, slice_get, nat_le, ◌==◌}
use Rattle.fabric_model.specs.declared.cable.NodePort.{NodePort}
use Rattle.smp_bytes.specs.Header.{sm_info, node_info, port_info, switch_info}
use Rattle.smp_bytes.specs.Field.{number_in, bits_in, bytes_in}
use Rattle.smp_bytes.specs.Packet.{attribute_id, attribute_modifier, attribute_data, is_directed}
use Rattle.smp_bytes.specs.Requests.{directed, answer_packet}
use Rattle.smp_bytes.specs.ReadBack.{FitsRequest}
use Rattle.smp_bytes.proofs.FieldLaws.{number_in-alike}
use Rattle.node_agents.specs.Agent.{node_of}
use Rattle.fabric_sim.specs.declared.packet.Packet.{Packet}
use Rattle.fabric_sim.specs.Simulation.{Simulation, AreCables, port_count, is_cable_port, is_seat_at, fabric_of}
use Rattle.fabric_sim.specs.Delivery.{after_deliver}
use Rattle.fabric_sim.specs.ThereAndBack.{BeginsWith}
use Rattle.attr_codec.specs.NodeInfo.{node_info_in}
use Rattle.attr_codec.specs.PortInfo.{port_state}
use Rattle.attr_codec.specs.SwitchInfo.{linear_fdb_cap}
use Rattle.fabric_sim.specs.ToldOfEnd.{port_asked, SaysNode, SaysPort, SaysSwitch, SaysOf, TellsOfEnd}
use Rattle.fabric_sim.proofs.Carries.{Carries, deliveries_carry, deliveries_hand_up, emissions_carry, injections_carry, copies_carry, losses_carry}
use Rattle.fabric_sim.proofs.Courses.{AnySends, SaysSo, AreOnCourse, IsAnswerFor, IsOnCourse, IsForManager}
use Rattle.fabric_sim.proofs.TripEnds.{few_ports, along_itself, agent_by_port}
use Rattle.fabric_sim.proofs.TripShapes.{port_count_stays}
use Rattle.fabric_sim.proofs.TripsOut.{IsPortOf}
use Rattle.manager_laws.specs.Scene.{Handed, Scene, ByLid, ByPath, Answer, Event, Deliver, Lose, Repeat, Send, Emit, CanHappen, emitted_from, sent_from, asks_manager, answer_to, answered_from, after_event, after_events, IsQuiet}
use Rattle.manager_laws.specs.AnswersTell.{IsBack, AnswersTell}
use Rattle.manager_laws.proofs.Returned as returned
use Rattle.manager_laws.proofs.TracedScenes.{WereTraced, manager_traced, other_traced, sent_traced, traced_by, traced_more, traced_there}

-- what came back tells -----------------------------------------------------------------------------

module _ (start : Simulation) (at : NodePort) (bytes : List ℕ) (r : IsAnswerFor start at bytes) where
  same_data : bytes_in attribute_data bytes ≡ bytes_in attribute_data r.answer
  same_data = returned.same_data AnySends (SaysSo start) start at bytes r

  pub tells : TellsOfEnd (fabric_of start) at bytes
  tells =
      record {
        end = r.is.end;
        leads = returned.comes_from AnySends (SaysSo start) start at bytes r;
        says = λ e. let said = r.is.tells (sym (returned.same_status AnySends (SaysSo start) start at bytes r) ∙ e) in
            said_same said (returned.same_attribute AnySends (SaysSo start) start at bytes r) (returned.same_modifier AnySends (SaysSo start) start at bytes r);
      }
    where
      said_same : SaysOf (fabric_of start) r.is.end r.answer → number_in attribute_id bytes ≡ number_in attribute_id r.answer
          → number_in attribute_modifier bytes ≡ number_in attribute_modifier r.answer → SaysOf (fabric_of start) r.is.end bytes
      said_same said attribute modifier =
          record {
            node = said.node;
            there = said.there;
            node_info = λ e. subst (λ d. SaysNode said.node r.is.end.port (node_info_in d)) (sym same_data) (said.node_info (sym attribute ∙ e));
            port_info = λ e.
                subst (λ d. SaysPort (fabric_of start) r.is.end.node said.node
                (port_asked said.node (number_in attribute_modifier bytes) r.is.end.port) (bits_in port_state d)) (sym same_data)
                (subst (λ m. SaysPort (fabric_of start) r.is.end.node said.node (port_asked said.node m r.is.end.port)
                (bits_in port_state (bytes_in attribute_data r.answer))) (sym modifier) (said.port_info (sym attribute ∙ e)));
            switch_info = λ e. subst (λ d. SaysSwitch said.node (number_in linear_fdb_cap d)) (sym same_data) (said.switch_info (sym attribute ∙ e));
          }

-- scenes ---------------------------------------------------------------------------------------------

-- all that was handed up was on its course
abbrev pub WereOnCourse : Simulation → List Handed → Type 0
WereOnCourse start handed = WereTraced AnySends (SaysSo start) start handed

-- what is so of a scene after events
pub record Continues (start : Simulation) (s : Scene) : Type 0 where
  pub fabric : Carries start s.fabric
  pub handed : WereOnCourse start s.handed

pub was_there : (start : Simulation) (handed : List Handed) (which : ℕ) (h : Handed) → WereOnCourse start handed → slice_get handed which ≡ Some h
    → IsForManager start h.at h.packet.bytes
was_there start = traced_there AnySends (SaysSo start) start

-- a request is on its course where it is sent
pub sent_on : (start : Simulation) (seat : NodePort) (method attribute modifier tid : ℕ) (path payload : List ℕ)
    → FitsRequest method attribute modifier tid payload → method < 2 ^ 7 → length path ≤ 63 → BeginsWith seat.port path → IsPortOf start seat
    → IsOnCourse start seat (directed method attribute modifier tid path payload)
sent_on start seat method attribute modifier tid path payload fits low short own within =
    sent_traced AnySends (SaysSo start) start seat method attribute modifier tid path payload fits low short own within tt

-- the answer that a manager gives ------------------------------------------------------------------

no_attribute : (start : Simulation) (p : NodePort) (within : IsPortOf start p) (answer : List ℕ) → number_in attribute_id answer ≡ sm_info
    → SaysOf (fabric_of start) p answer
no_attribute start p within answer is_sm_info =
    let (a, there) = agent_by_port start p.node (omega (arith, within.some, within.most)) in
    record {
      node = node_of a;
      there = slice_get-map node_of start.agents p.node ∙ ap (option_map node_of) there;
      node_info = λ e. let clash : sm_info ≡ node_info = sym is_sm_info ∙ e in absurd (omega (arith, clash));
      port_info = λ e. let clash : sm_info ≡ port_info = sym is_sm_info ∙ e in absurd (omega (arith, clash));
      switch_info = λ e. let clash : sm_info ≡ switch_info = sym is_sm_info ∙ e in absurd (omega (arith, clash));
    }

-- its bytes, however it goes
pub bytes_answered : (request : Packet) (given : ℕ) (payload : List ℕ) → (answer_to request given payload).bytes ≡ answer_packet request.bytes given payload
bytes_answered request given payload =
    cond_both (is_directed request.bytes) _ _ (λ (p : Packet). p.bytes ≡ answer_packet request.bytes given payload) (λ _. refl) (λ _. refl)

module _ {start : Simulation} (cables : AreCables start) (counts : (id : ℕ) → port_count start id ≤ 254) where
  manager_answers : (h : Handed) (seat : NodePort) (given : ℕ) (payload : List ℕ) → IsForManager start h.at h.packet.bytes → given < 2 ^ 15 → length payload
      ≡ 64
      → asks_manager seat h ≡ true → IsOnCourse start seat (answer_packet h.packet.bytes given payload)
  manager_answers h seat given payload is small whole asks =
      manager_traced AnySends (SaysSo start) start cables counts h seat given payload is small whole asks
      (λ r is_sm_info holds _. no_attribute start h.at r.within (answer_packet h.packet.bytes given payload)
      (number_in-alike attribute_id (answer_packet h.packet.bytes given payload) h.packet.bytes
      (λ id from less. holds.kept id (inr (inl (omega (arith, from), omega (arith, less))))) ∙ is_sm_info))

  -- events ----------------------------------------------------------------------------------------------

  -- a port for a cable is one of the fabric at the start
  pub cabled_in_port : (s : Simulation) → Carries start s → (p : NodePort) → is_cable_port s p ≡ true → IsPortOf start p
  cabled_in_port s c p there =
      let parts = and_parts (nat_le 1 p.port) (nat_le p.port (port_count s p.node)) there in
      let to_count : p.port ≤ port_count s p.node = leb-true _ _ parts.1 in
      record { some = leb-true _ _ parts.0; most = omega (arith, to_count, port_count_stays c.along p.node) }

  pub seat_in_port : (s : Simulation) → Carries start s → (seat : NodePort) → is_seat_at s seat ≡ true → IsPortOf start seat
  seat_in_port s c seat there = cabled_in_port s c seat (c.is.seats seat there)

  pub sends : (s : Scene) (seat : NodePort) (packet : Packet) → Continues start s → (is_seat_at s.fabric seat ≡ true → IsOnCourse start seat packet.bytes)
      → Continues start (sent_from s seat packet)
  sends s seat packet c on = record { fabric = injections_carry cables counts s.fabric c.fabric seat packet on; handed = c.handed }

  emits : (s : Scene) (at : NodePort) (packet : Packet) → Continues start s → (is_cable_port s.fabric at ≡ true → IsOnCourse start at packet.bytes)
      → Continues start (emitted_from s at packet)
  emits s at packet c on = record { fabric = emissions_carry cables counts s.fabric c.fabric at packet on; handed = c.handed }

  answers : (s : Scene) (seat : NodePort) (given : ℕ) (payload : List ℕ) (m : Option Handed) → Continues start s → given < 2 ^ 15 → length payload ≡ 64
      → ((h : Handed) → m ≡ Some h → IsForManager start h.at h.packet.bytes) → Continues start (answered_from s seat given payload m)
  answers s seat given payload None c small whole was = c
  answers s seat given payload (Some h) c small whole was =
      cond_both (asks_manager seat h) _ _ (Continues start)
      (λ asks. sends s seat (answer_to h.packet given payload) c
      (λ _. subst (IsOnCourse start seat) (sym (bytes_answered h.packet given payload)) (manager_answers h seat given payload (was h refl) small whole asks)))
      (λ _. c)

  pub continued : (s : Scene) (event : Event) → Continues start s → CanHappen event → Continues start (after_event s event)
  continued s (Deliver serial) c can =
      record {
        fabric = deliveries_carry cables counts s.fabric c.fabric serial;
        handed = traced_more AnySends (SaysSo start) start s.handed _ c.handed
            (traced_by AnySends (SaysSo start) start (after_deliver s.fabric serial).result (deliveries_hand_up cables counts s.fabric c.fabric serial));
      }
  continued s (Lose serial) c can = record { fabric = losses_carry cables counts s.fabric c.fabric serial; handed = c.handed }
  continued s (Repeat serial) c can = record { fabric = copies_carry cables counts s.fabric c.fabric serial; handed = c.handed }
  continued s (Send seat (ByLid packet)) c can = sends s seat packet c (λ _. other_traced AnySends (SaysSo start) start seat packet.bytes can.0 can.1)
  continued s (Send seat (ByPath method attribute modifier tid path payload)) c (fits, low, short, own) =
      sends s seat _ c (λ there. sent_on start seat method attribute modifier tid path payload fits low short own (seat_in_port s.fabric c.fabric seat there))
  continued s (Send seat (Answer which given payload)) c (small, whole) =
      answers s seat given payload (slice_get s.handed which) c small whole (λ h e. was_there start s.handed which h c.handed e)
  continued s (Emit at (ByLid packet)) c (can, sets) = emits s at packet c (λ _. other_traced AnySends (SaysSo start) start at packet.bytes can.0 can.1)
  continued s (Emit at (ByPath method attribute modifier tid path payload)) c ((fits, low, short, own), sets) =
      emits s at _ c (λ there. sent_on start at method attribute modifier tid path payload fits low short own (cabled_in_port s.fabric c.fabric at there))
  continued s (Emit at (Answer which given payload)) c can = absurd can

  all_continue : (events : List Event) (s : Scene) → Continues start s → All CanHappen events → Continues start (after_events events s)
  all_continue [] s c all = c
  all_continue (event ∷ events) s c all =
      all_continue events (after_event s event) (continued s event c (All-head CanHappen event events all)) (All-tail CanHappen event events all)

-- the law --------------------------------------------------------------------------------------------

pub is_told : (start : Simulation) (h : Handed) → IsForManager start h.at h.packet.bytes → IsBack h → TellsOfEnd (fabric_of start) h.at h.packet.bytes
is_told start h is (directed, back) = elim (is.course directed) [
  | inl r ↦ absurd (cc (sym (ap (λ b. b / 2 ^ 7 % 2 ^ 1 == 1) (r.bytes_are.kept 4 (inl (omega arith))) ∙ r.over.outgoing) ∙ back))
  | inr r ↦ tells start h.at h.packet.bytes r
]

all_told : (start : Simulation) (handed : List Handed) → WereOnCourse start handed
    → All (λ h. IsBack h → TellsOfEnd (fabric_of start) h.at h.packet.bytes) handed
all_told start [] all = All-nil (λ h. IsBack h → TellsOfEnd (fabric_of start) h.at h.packet.bytes)
all_told start (h ∷ handed) all =
    All-cons (λ x. IsBack x → TellsOfEnd (fabric_of start) x.at x.packet.bytes) h handed (is_told start h all.0) (all_told start handed all.1)

-- at the beginning
pub begun : (s : Scene) → IsQuiet s → Continues s.fabric s
begun s quiet =
    record {
      fabric = record { along = along_itself s.fabric quiet.fabric; is = quiet.fabric; flights = subst (AreOnCourse s.fabric) (sym quiet.flights) tt };
      handed = subst (WereOnCourse s.fabric) (sym quiet.handed) tt;
    }

pub answers_tell : AnswersTell
answers_tell s events quiet all =
    let start = s.fabric in
    let along = along_itself start quiet.fabric in
    all_told start _
    (all_continue quiet.fabric.cables (few_ports start along.agents) events s (begun s quiet) all).handed
