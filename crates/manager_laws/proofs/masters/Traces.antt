-- Packets on a scene where managers write a plan: whatever happens there, each is on its course, and each Set among them carries the plan's values where it leads.
use Rattle.std.proofs.Common.{◌≡◌, inl, ℕ, ◌<◌, ◌≤◌, ◌^◌, true, List, length, refl, sym, ◌∙◌, subst, arith}
use Rattle.std.proofs.lemmas.Bool.{cond_both}
use Rattle.std.specs.Prelude.{Option, Some, None, slice_get}
use Rattle.fabric_model.specs.declared.cable.NodePort.{NodePort}
use Rattle.smp_bytes.specs.Header.{get_resp, set}
use Rattle.smp_bytes.specs.Requests.{answer_packet, directed}
use Rattle.smp_bytes.proofs.Answered.{answer_reads_back}
use Rattle.fabric_sim.specs.declared.packet.Packet.{Packet}
use Rattle.fabric_sim.specs.Simulation.{AreCables, Simulation, is_cable_port, is_seat_at, port_count}
use Rattle.fabric_sim.specs.Delivery.{after_deliver}
use Rattle.fabric_sim.specs.ThereAndBack.{directed_packet}
use Rattle.fabric_sim.proofs.Traced.{IsForManager, IsOnCourse}
use Rattle.fabric_sim.proofs.TracedCalls.{AreTraced, copies_trace, deliveries_hand_up_traced, deliveries_trace, emissions_trace, emitted_agents, injected_agents, injections_trace, lost_agents}
use Rattle.fabric_sim.proofs.TracedCalls.{losses_trace, repeated_agents}
use Rattle.fabric_sim.proofs.TripEnds.{request_over}
use Rattle.lft_blocks.specs.Plan.{PlanValue}
use Rattle.manager_laws.specs.Scene.{Handed, Scene, Sending, ByLid, ByPath, Answer, Event, Deliver, Lose, Repeat, Send, Emit, CanEmit, CanHappen, CanSend, IsQuiet}
use Rattle.manager_laws.specs.Scene.{after_event, emitted, emitted_from, answer_to, answered_from, asks_manager, sent, sent_from, with_fabric}
use Rattle.manager_laws.proofs.Answers.{Continues, begun, bytes_answered, cabled_in_port, continued, seat_in_port}
use Rattle.manager_laws.proofs.Scenes.{SetsInfoAlone}
use Rattle.manager_laws.proofs.TracedScenes.{WereTraced, manager_traced, other_traced, sent_traced, traced_by, traced_more, traced_there}
use Rattle.manager_laws.proofs.masters.Deliveries.{Sends, Tells}
use Rattle.manager_laws.proofs.masters.Harmless.{AreHarmless, IsHarmless, copied_harmless, delivered_harmless, directed_harmless, emitted_harmless, injected_harmless, lost_harmless}
use Rattle.smp_bytes.proofs.Made.{directed_reads_back}
use Rattle.manager_laws.specs.Masters.{SetsInfoOnly}

module _ (from : Scene) (plan : PlanValue) (IsSeat : NodePort → Type 0) where
  -- each Set over a path that is sent from a seat carries the plan's values where it leads; others set nothing but SMInfo
  abbrev pub SendsSo : NodePort → Sending → Type 0
  SendsSo seat (ByPath method attribute modifier tid path payload) =
      Sends from.fabric plan IsSeat seat (directed method attribute modifier tid path payload)
  SendsSo seat (ByLid packet) = SetsInfoAlone packet.bytes
  SendsSo seat (Answer which given payload) = Unit {0}

  abbrev pub SentSo : Event → Type 0
  SentSo (Send seat sending) = SendsSo seat sending
  SentSo (Emit at sending) = SendsSo at sending
  SentSo event = Unit {0}

  -- what is so of the packets at each moment
  pub record Traces (w : Scene) : Type 0 where
    pub continues : Continues from.fabric w
    pub flights : AreTraced (Sends from.fabric plan IsSeat) (Tells from.fabric plan IsSeat) from.fabric w.fabric.flights
    pub handed : WereTraced (Sends from.fabric plan IsSeat) (Tells from.fabric plan IsSeat) from.fabric w.handed
    pub harmless : AreHarmless w.fabric.flights

  -- others set nothing but SMInfo
  pub others_so : (event : Event) → CanHappen event → SetsInfoOnly event → SentSo event
  others_so (Send seat (ByLid packet)) can_happen nothing = nothing
  others_so (Send seat (ByPath method attribute modifier tid path payload)) (fits, low, short, begins) nothing = λ sets.
      let holds = (directed_reads_back method attribute modifier tid path payload fits short).0 in
      inl (holds.attribute_id ∙ nothing (sym holds.method ∙ sets))
  others_so (Emit at (ByLid packet)) (can, sets) nothing = λ is. absurd (sets is)
  others_so (Emit at (ByPath method attribute modifier tid path payload)) ((fits, low, short, begins), sets) nothing = λ is.
      let holds = (directed_reads_back method attribute modifier tid path payload fits short).0 in
      absurd (sets (sym holds.method ∙ is))
  others_so (Emit at (Answer which given payload)) can nothing = absurd can
  others_so event can_happen nothing = tt

  -- nothing is on its way at first
  pub first_traces : IsQuiet from → Traces from
  first_traces quiet =
      record {
        continues = begun from quiet;
        flights = subst (AreTraced (Sends from.fabric plan IsSeat) (Tells from.fabric plan IsSeat) from.fabric) (sym quiet.flights) tt;
        handed = subst (WereTraced (Sends from.fabric plan IsSeat) (Tells from.fabric plan IsSeat) from.fabric) (sym quiet.handed) tt;
        harmless = subst AreHarmless (sym quiet.flights) tt;
      }

  module _ (cables : AreCables from.fabric) (counts : (id : ℕ) → port_count from.fabric id ≤ 254) where
    abbrev Requests : NodePort → List ℕ → Type 0
    Requests = Sends from.fabric plan IsSeat

    abbrev Told : NodePort → NodePort → List ℕ → Type 0
    Told = Tells from.fabric plan IsSeat

    -- where no agent changes
    pub record StaysOn (w after : Scene) : Type 0 where
      pub flights : AreTraced Requests Told from.fabric after.fabric.flights
      pub handed : WereTraced Requests Told from.fabric after.handed
      pub harmless : AreHarmless after.fabric.flights
      pub agents : after.fabric.agents ≡ w.fabric.agents

    -- where nothing was handed up either
    stays_with : (w : Scene) → Traces w → (after : Simulation) → AreTraced Requests Told from.fabric after.flights → AreHarmless after.flights
        → after.agents ≡ w.fabric.agents → StaysOn w (with_fabric w after)
    stays_with w t after flights harmless agents = record { flights = flights; handed = t.handed; harmless = harmless; agents = agents }

    -- what is sent -----------------------------------------------------------------------------------

    module _ (w : Scene) (t : Traces w) where
      sent_on : (seat : NodePort) (packet : Packet)
          → (is_seat_at w.fabric seat ≡ true → IsOnCourse Requests Told from.fabric seat packet.bytes) → IsHarmless packet.bytes
          → StaysOn w (sent_from w seat packet)
      sent_on seat packet on its =
          stays_with w t _ (injections_trace Requests Told cables counts t.continues.fabric.along t.continues.fabric.is t.flights seat packet on)
          (injected_harmless Requests Told cables counts t.continues.fabric.along t.continues.fabric.is t.flights t.harmless seat packet its)
          (injected_agents Requests Told cables counts t.continues.fabric.along t.continues.fabric.is t.flights seat packet)

      still : StaysOn w w
      still = record { flights = t.flights; handed = t.handed; harmless = t.harmless; agents = refl }

      answer_sets_nothing : (h : Handed) (given : ℕ) (payload : List ℕ) → IsForManager Requests Told from.fabric h.at h.packet.bytes → given < 2 ^ 15
          → length payload ≡ 64
          → IsHarmless (answer_packet h.packet.bytes given payload)
      answer_sets_nothing h given payload is small whole other sets =
          let holds = answer_reads_back h.packet.bytes given payload is.whole.count is.whole.parses whole (omega (arith, small)) (λ _. small) in
          let clash : get_resp ≡ set = sym holds.method ∙ sets in absurd (omega (arith, clash))

      answered_on : (seat : NodePort) (given : ℕ) (payload : List ℕ) (m : Option Handed) → given < 2 ^ 15 → length payload ≡ 64
          → ((h : Handed) → m ≡ Some h → IsForManager Requests Told from.fabric h.at h.packet.bytes)
          → StaysOn w (answered_from w seat given payload m)
      answered_on seat given payload None small whole was = still
      answered_on seat given payload (Some h) small whole was =
          cond_both (asks_manager seat h) _ _ (StaysOn w)
          (λ asks. sent_on seat (answer_to h.packet given payload)
          (λ _. subst (IsOnCourse Requests Told from.fabric seat) (sym (bytes_answered h.packet given payload))
          (manager_traced Requests Told from.fabric cables counts h seat given payload (was h refl) small whole asks (λ r info holds. tt)))
          (subst IsHarmless (sym (bytes_answered h.packet given payload)) (answer_sets_nothing h given payload (was h refl) small whole)))
          (λ _. still)

      pub sending_on : (seat : NodePort) (sending : Sending) → CanSend seat sending → SendsSo seat sending → StaysOn w (sent w seat sending)
      sending_on seat (ByLid packet) (count, other) so =
          sent_on seat packet (λ _. other_traced Requests Told from.fabric seat packet.bytes count other) (λ _. so)
      sending_on seat (ByPath method attribute modifier tid path payload) (fits, low, short, begins) so =
          sent_on seat (directed_packet (directed method attribute modifier tid path payload))
          (λ there. sent_traced Requests Told from.fabric seat method attribute modifier tid path payload fits low short begins
          (seat_in_port cables counts w.fabric t.continues.fabric seat there) so)
          (directed_harmless (directed method attribute modifier tid path payload) (request_over fits low short).directed)
      sending_on seat (Answer which given payload) (small, whole) so =
          answered_on seat given payload (slice_get w.handed which) small whole
          (λ h e. traced_there Requests Told from.fabric w.handed which h t.handed e)

    -- what others send, who are no managers
    module _ (w : Scene) (t : Traces w) where
      emit_on : (at : NodePort) (packet : Packet)
          → (is_cable_port w.fabric at ≡ true → IsOnCourse Requests Told from.fabric at packet.bytes) → IsHarmless packet.bytes
          → StaysOn w (emitted_from w at packet)
      emit_on at packet on its =
          stays_with w t _ (emissions_trace Requests Told cables counts t.continues.fabric.along t.continues.fabric.is t.flights at packet on)
          (emitted_harmless Requests Told cables counts t.continues.fabric.along t.continues.fabric.is t.flights t.harmless at packet its)
          (emitted_agents Requests Told cables counts t.continues.fabric.along t.continues.fabric.is t.flights at packet)

      pub emitting_on : (at : NodePort) (sending : Sending) → CanEmit at sending → SendsSo at sending → StaysOn w (emitted w at sending)
      emitting_on at (ByLid packet) ((count, other), sets) so =
          emit_on at packet (λ _. other_traced Requests Told from.fabric at packet.bytes count other) (λ _. so)
      emitting_on at (ByPath method attribute modifier tid path payload) ((fits, low, short, begins), sets) so =
          emit_on at (directed_packet (directed method attribute modifier tid path payload))
          (λ there. sent_traced Requests Told from.fabric at method attribute modifier tid path payload fits low short begins
          (cabled_in_port cables counts w.fabric t.continues.fabric at there) so)
          (directed_harmless (directed method attribute modifier tid path payload) (request_over fits low short).directed)
      emitting_on at (Answer which given payload) can so = absurd can

    pub lost_on : (w : Scene) (n : ℕ) → Traces w → StaysOn w (after_event w (Lose n))
    lost_on w n t =
        stays_with w t _ (losses_trace Requests Told cables counts t.continues.fabric.along t.continues.fabric.is t.flights n)
        (lost_harmless Requests Told cables counts t.continues.fabric.along t.continues.fabric.is t.flights t.harmless n)
        (lost_agents Requests Told cables counts t.continues.fabric.along t.continues.fabric.is t.flights n)

    pub repeated_on : (w : Scene) (n : ℕ) → Traces w → StaysOn w (after_event w (Repeat n))
    repeated_on w n t =
        stays_with w t _ (copies_trace Requests Told cables counts t.continues.fabric.along t.continues.fabric.is t.flights n)
        (copied_harmless Requests Told cables counts t.continues.fabric.along t.continues.fabric.is t.flights t.harmless n)
        (repeated_agents Requests Told cables counts t.continues.fabric.along t.continues.fabric.is t.flights n)

    pub delivered_traces : (w : Scene) (n : ℕ) → Traces w → Traces (after_event w (Deliver n))
    delivered_traces w n t =
        record {
          continues = continued cables counts w (Deliver n) t.continues tt;
          flights = deliveries_trace Requests Told cables counts t.continues.fabric.along t.continues.fabric.is t.flights n (λ flight request asked r. tt);
          handed = traced_more Requests Told from.fabric w.handed _ t.handed
              (traced_by Requests Told from.fabric (after_deliver w.fabric n).result
              (deliveries_hand_up_traced Requests Told cables counts t.continues.fabric.along t.continues.fabric.is t.flights n));
          harmless = delivered_harmless Requests Told cables counts t.continues.fabric.along t.continues.fabric.is t.flights t.harmless n;
        }

    pub still_traces : (w : Scene) (event : Event) → Traces w → CanHappen event → StaysOn w (after_event w event) → Traces (after_event w event)
    still_traces w event t can_happen so =
        record {
          continues = continued cables counts w event t.continues can_happen;
          flights = so.flights;
          handed = so.handed;
          harmless = so.harmless;
        }

    pub traces_on : (w : Scene) (event : Event) → Traces w → CanHappen event → SentSo event → Traces (after_event w event)
    traces_on w (Deliver n) t can_happen so = delivered_traces w n t
    traces_on w (Lose n) t can_happen so = still_traces w (Lose n) t tt (lost_on w n t)
    traces_on w (Repeat n) t can_happen so = still_traces w (Repeat n) t tt (repeated_on w n t)
    traces_on w (Send seat sending) t can_happen so = still_traces w (Send seat sending) t can_happen (sending_on w t seat sending can_happen so)
    traces_on w (Emit at sending) t can_happen so = still_traces w (Emit at sending) t can_happen (emitting_on w t at sending can_happen so)
