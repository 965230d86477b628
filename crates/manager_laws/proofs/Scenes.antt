-- What is known of the packets on a scene: the requests that were sent from the seat are the manager's own, and an answer to
-- one of them tells whether its step was done.
use Rattle.std.proofs.Common.{◌≡◌, ◌⊎◌, inl, inr, ℕ, ◌+◌, ◌<◌, ◌≤◌, ◌^◌, true, List, [], ◌∷◌}
use Rattle.std.proofs.Common.{length, refl, sym, ap, ◌∙◌, subst, arith}
use Rattle.std.proofs.lemmas.Bool.{cond_both}
use Rattle.std.specs.Prelude.{Contains, Option, Some, None, slice_get}
use Rattle.std.specs.Option.{option_map_or}
use Rattle.fabric_model.specs.declared.cable.NodePort.{NodePort}
use Rattle.smp_bytes.specs.Header.{set, done, sm_info}
use Rattle.smp_bytes.specs.Field.{Field, number_in}
use Rattle.smp_bytes.specs.Packet.{attribute_id, method, transaction_id, status}
use Rattle.smp_bytes.specs.Requests.{directed, answer_packet}
use Rattle.smp_bytes.specs.ReadBack.{HoldsRequest, HoldsAnswer}
use Rattle.fabric_model.specs.DirectedWalk.{directed_end}
use Rattle.smp_bytes.proofs.FieldLaws.{number_in-alike}
use Rattle.smp_bytes.proofs.Made.{directed_reads_back}
use Rattle.dr_forward.proofs.Trips.{field_kept}
use Rattle.node_agents.specs.Agent.{Agent}
use Rattle.node_agents.specs.Answers.{after_answer}
use Rattle.node_agents.proofs.Outcomes.{answers_hold}
use Rattle.fabric_sim.specs.declared.packet.Packet.{Packet}
use Rattle.fabric_sim.specs.declared.flight.Flight.{Flight}
use Rattle.fabric_sim.specs.Simulation.{Simulation, AreCables, agent_at, port_count, is_cable_port, is_seat_at, fabric_of, port_of}
use Rattle.fabric_sim.specs.Delivery.{after_deliver, answer_at}
use Rattle.fabric_sim.specs.Changes.{after_emit, after_inject, after_repeat, after_lose}
use Rattle.fabric_sim.proofs.Traced.{IsRequestFor, IsOnCourse, IsForManager}
use Rattle.fabric_sim.proofs.TracedCalls.{AreTraced, IsAskedBy, deliveries_trace, deliveries_hand_up_traced, emissions_trace, injections_trace}
use Rattle.fabric_sim.proofs.TracedCalls.{emitted_agents, injected_agents, copies_trace, losses_trace}
use Rattle.fabric_sim.proofs.TracedMore.{weaker_manager, weaker_all}
use Rattle.fabric_sim.proofs.TripShapes.{agent_there}
use Rattle.lft_blocks.specs.Plan.{PlanValue}
use Rattle.plan_steps.specs.Step.{set_packet}
use Rattle.manager_laws.specs.Scene.{Handed, Scene, Sending, ByLid, ByPath, Answer, Event, Deliver, Lose, Repeat, Send, Emit, CanSend, CanHappen}
use Rattle.manager_laws.specs.Scene.{emitted_from, sent, sent_from, asks_manager, answer_to, answered_from, after_event}
use Rattle.manager_laws.proofs.AskedSets.{WasAsked, was_asked}
use Rattle.manager_laws.proofs.Answers.{Continues, bytes_answered, cabled_in_port, seat_in_port}
use Rattle.manager_laws.proofs.TracedScenes as traced
use Rattle.manager_laws.specs.Managing.{IsElsewhere}
use Rattle.manager_laws.proofs.Steps.{StepSent}
use Rattle.manager_laws.proofs.WritingTaken.{IsGood, IsDone, fits_step, own_done}

-- a packet that sets nothing but SMInfo
abbrev pub SetsInfoAlone : List ℕ → Type 0
SetsInfoAlone bytes = number_in method bytes ≡ set → number_in attribute_id bytes ≡ sm_info

module _ (start : Simulation) (seat : NodePort) (plan : PlanValue) (c : ℕ) (all : List StepSent) where
  -- the number of a sweep, or SMInfo, for which no step asks
  abbrev pub IsNoStep : List ℕ → Type 0
  IsNoStep bytes = (2 ^ 32 ≤ number_in transaction_id bytes) ⊎ (number_in attribute_id bytes ≡ sm_info)

  -- what no step has: a number that was used up before, or one of a sweep, or SMInfo
  abbrev pub IsOld : List ℕ → Type 0
  IsOld bytes = (number_in transaction_id bytes < c) ⊎ IsNoStep bytes

  -- a step's Set
  pub record IsOfStep (request : List ℕ) : Type 0 where
    pub step : StepSent
    pub there : Contains all step
    pub small : step.number < 2 ^ 32
    pub is : request ≡ set_packet step.number step.step

  -- a request whose number was used up before, or a sweep's or one for SMInfo, which sets nothing but SMInfo
  abbrev pub IsEarlier : List ℕ → Type 0
  IsEarlier request = (number_in transaction_id request < c) ⊎ (IsNoStep request × SetsInfoAlone request)

  -- a request of the manager's own
  abbrev pub IsOwn : List ℕ → Type 0
  IsOwn request = IsEarlier request ⊎ IsOfStep request

  abbrev pub Sends : NodePort → List ℕ → Type 0
  Sends origin request = origin ≡ seat → IsOwn request

  -- what it sends over a path is such a request, or an answer; by LIDs it sets SMInfo alone
  abbrev pub IsOwnSending : Sending → Type 0
  IsOwnSending (ByPath method attribute modifier tid path payload) = IsOwn (directed method attribute modifier tid path payload)
  IsOwnSending (ByLid packet) = SetsInfoAlone packet.bytes
  IsOwnSending (Answer which given payload) = Unit {0}

  -- the answer to a step's Set, which was done if it says so
  pub record AnswersStep (s : Simulation) (answer : List ℕ) : Type 0 where
    pub step : StepSent
    pub there : Contains all step
    pub number : number_in transaction_id answer ≡ step.number
    pub asked : WasAsked start seat step answer
    pub is_done : status answer ≡ done → IsDone start seat plan s step

  abbrev pub Tells : Simulation → NodePort → NodePort → List ℕ → Type 0
  Tells s origin end answer = origin ≡ seat → IsOld answer ⊎ AnswersStep s answer

  abbrev pub WereTraced : Simulation → List Handed → Type 0
  WereTraced s handed = traced.WereTraced Sends (Tells s) start handed

  pub record IsTraced (w : Scene) : Type 0 where
    pub flights : AreTraced Sends (Tells w.fabric) start w.fabric.flights
    pub handed : WereTraced w.fabric w.handed

  -- later -------------------------------------------------------------------------------------------

  -- what was done stays done from one fabric to another
  abbrev pub Stays : Simulation → Simulation → Type 0
  Stays s after = (p : StepSent) → Contains all p → IsDone start seat plan s p → IsDone start seat plan after p

  pub same_agents : (s after : Simulation) → after.agents ≡ s.agents → Stays s after
  same_agents s after same p there is =
      record { holds = λ counts end a leads at. is.holds counts end a leads (ap (λ xs. slice_get xs end.node) (sym same) ∙ at) }

  tells_later : (s after : Simulation) → Stays s after → (origin end : NodePort) (answer : List ℕ) → Tells s origin end answer → Tells after origin end answer
  tells_later s after stays origin end answer tells same =
      elim (tells same) [
        | inl old ↦ inl old
        | inr a ↦ inr (record { step = a.step; there = a.there; number = a.number; asked = a.asked; is_done = λ e. stays a.step a.there (a.is_done e) })
      ]

  handed_later : (s after : Simulation) → Stays s after → (handed : List Handed) → WereTraced s handed → WereTraced after handed
  handed_later s after stays [] were = tt
  handed_later s after stays (h ∷ handed) were = (
    weaker_manager Sends (Tells s) Sends (Tells after) start (λ o x k. k)
        (tells_later s after stays) h.at h.packet.bytes were.0,
    handed_later s after stays handed were.1,
  )

  flights_later : (s after : Simulation) → Stays s after → (flights : List Flight) → AreTraced Sends (Tells s) start flights
      → AreTraced Sends (Tells after) start flights
  flights_later s after stays = weaker_all Sends (Tells s) Sends (Tells after) start (λ o x k. k) (tells_later s after stays)

  -- answers --------------------------------------------------------------------------------------------

  -- a field of an agent's answer that tells which request it answers
  answered_field : (f : Field) → 6 ≤ f.at → f.at + f.len ≤ 64 → (s : Simulation) (n : ℕ) (flight : Flight) (request : List ℕ)
      → Continues start (record { fabric = s; handed = [] }) → IsAskedBy s n flight request
      → number_in f (answer_at s (port_of flight.whereabouts) request) ≡ number_in f request
  answered_field f from to s n flight request c asked = by_agent (agent_at s (port_of flight.whereabouts).node) refl
    where
      of_agent : (a : Agent) → agent_at s (port_of flight.whereabouts).node ≡ Some a
          → number_in f (after_answer a request (port_of flight.whereabouts).port).packet ≡ number_in f request
      of_agent a there =
          let holds = answers_hold a request (port_of flight.whereabouts).port (agent_there s.agents (port_of flight.whereabouts).node a c.fabric.along.agents
          there)
          asked.whole in
          number_in-alike f (after_answer a request (port_of flight.whereabouts).port).packet request
          (λ id past less. holds.kept id (inr (inl (omega (arith, past, from), omega (arith, less, to)))))

      by_agent : (m : Option Agent) → agent_at s (port_of flight.whereabouts).node ≡ m
          → number_in f (option_map_or (λ a. (after_answer a request (port_of flight.whereabouts).port).packet) m request) ≡ number_in f request
      by_agent None there = refl
      by_agent (Some a) there = of_agent a there

  -- an answer to an old request is old
  old_kept : (request answer : List ℕ) → number_in transaction_id answer ≡ number_in transaction_id request
      → number_in attribute_id answer ≡ number_in attribute_id request → IsEarlier request → IsOld answer
  old_kept request answer number attribute (inl low) = inl (omega (arith, low, number))
  old_kept request answer number attribute (inr (inl high, alone)) = inr (inl (omega (arith, high, number)))
  old_kept request answer number attribute (inr (inr info, alone)) = inr (inr (attribute ∙ info))

  module _ (cables : AreCables start) (counts : (id : ℕ) → port_count start id ≤ 254)
      (good : (x : StepSent) → Contains all x → IsGood start seat plan x) where
    -- a step's Set reads back
    step_reads : (x : StepSent) → Contains all x → x.number < 2 ^ 32
        → HoldsRequest (set_packet x.number x.step) set x.step.attribute x.step.modifier x.number x.step.payload
    step_reads x there small =
        let is_good = good x there in
        (directed_reads_back set x.step.attribute x.step.modifier x.number x.step.path x.step.payload (fits_step x is_good.sendable small) is_good.short).0

    -- an agent's answer
    agent_tells : (s : Simulation) (n : ℕ) → Continues start (record { fabric = s; handed = [] }) → (flight : Flight) (request : List ℕ)
        → IsAskedBy s n flight request
        → (r : IsRequestFor Sends (Tells (after_deliver s n).fabric) start (port_of flight.whereabouts) request)
        → Tells (after_deliver s n).fabric r.origin (port_of flight.whereabouts) (answer_at s (port_of flight.whereabouts) request)
    agent_tells s n c flight request asked r same =
        elim (r.sent same) [
          | inl old ↦ inl (old_kept r.request (answer_at s (port_of flight.whereabouts) request) number attribute old)
          | inr x ↦ inr (record {
            step = x.step;
            there = x.there;
            number = number ∙ ap (number_in transaction_id) x.is ∙ (step_reads x.step x.there x.small).transaction_id;
            asked = was_asked start s seat c.fabric.along n flight request asked x.step (good x.step x.there).sendable (good x.step x.there).short x.small
                r.path r.request _ (length r.path + 1) r.over x.is from_seat r.bytes_are;
            is_done = λ e. own_done start s seat plan c.fabric.along n flight request asked x.step (good x.step x.there) x.small r.path r.request _
                (length r.path + 1) r.over x.is from_seat r.bytes_are e;
          })
        ]
      where
        from_seat : directed_end (fabric_of start) seat r.path ≡ Some (port_of flight.whereabouts)
        from_seat = ap (λ o. directed_end (fabric_of start) o r.path) (sym same) ∙ r.leads

        number : number_in transaction_id (answer_at s (port_of flight.whereabouts) request) ≡ number_in transaction_id r.request
        number =
            answered_field transaction_id (omega arith) (omega arith) s n flight request c asked
            ∙ field_kept transaction_id r.request request (inr (omega arith, omega arith)) r.bytes_are.kept

        attribute : number_in attribute_id (answer_at s (port_of flight.whereabouts) request) ≡ number_in attribute_id r.request
        attribute =
            answered_field attribute_id (omega arith) (omega arith) s n flight request c asked
            ∙ field_kept attribute_id r.request request (inr (omega arith, omega arith)) r.bytes_are.kept

    -- what a manager answers to a request for SMInfo
    manager_tells : (s : Simulation) (h : Handed) (given : ℕ) (payload : List ℕ) (r : IsRequestFor Sends (Tells s) start h.at h.packet.bytes)
        → number_in attribute_id h.packet.bytes ≡ sm_info → HoldsAnswer h.packet.bytes (answer_packet h.packet.bytes given payload) given payload
        → Tells s r.origin h.at (answer_packet h.packet.bytes given payload)
    manager_tells s h given payload r is_sm_info holds same = inl (by_request (r.sent same))
      where
        number : number_in transaction_id (answer_packet h.packet.bytes given payload) ≡ number_in transaction_id r.request
        number =
            number_in-alike transaction_id (answer_packet h.packet.bytes given payload) h.packet.bytes
            (λ id from less. holds.kept id (inr (inl (omega (arith, from), omega (arith, less)))))
            ∙ field_kept transaction_id r.request h.packet.bytes (inr (omega arith, omega arith)) r.bytes_are.kept

        attribute : number_in attribute_id (answer_packet h.packet.bytes given payload) ≡ number_in attribute_id r.request
        attribute =
            number_in-alike attribute_id (answer_packet h.packet.bytes given payload) h.packet.bytes
            (λ id from less. holds.kept id (inr (inl (omega (arith, from), omega (arith, less)))))
            ∙ field_kept attribute_id r.request h.packet.bytes (inr (omega arith, omega arith)) r.bytes_are.kept

        -- no step asks for SMInfo
        by_request : IsOwn r.request → IsOld (answer_packet h.packet.bytes given payload)
        by_request (inl old) = old_kept r.request (answer_packet h.packet.bytes given payload) number attribute old
        by_request (inr x) =
            absurd ((good x.step x.there).sendable.no_manager
            (sym (step_reads x.step x.there x.small).attribute_id ∙ ap (number_in attribute_id) (sym x.is)
            ∙ sym (field_kept attribute_id r.request h.packet.bytes (inr (omega arith, omega arith)) r.bytes_are.kept) ∙ is_sm_info))

    -- events ----------------------------------------------------------------------------------------

    pub sends_traced : (w : Scene) (from : NodePort) (packet : Packet) → Continues start w → IsTraced w
        → (is_seat_at w.fabric from ≡ true → IsOnCourse Sends (Tells w.fabric) start from packet.bytes) → IsTraced (sent_from w from packet)
    sends_traced w from packet c t on =
        let after = (after_inject w.fabric from packet).fabric in
        let stays = same_agents w.fabric after (injected_agents Sends (Tells w.fabric) cables counts c.fabric.along c.fabric.is t.flights from packet) in
        record {
          flights = flights_later w.fabric after stays after.flights
              (injections_trace Sends (Tells w.fabric) cables counts c.fabric.along c.fabric.is t.flights from packet on);
          handed = handed_later w.fabric after stays w.handed t.handed;
        }

    emits_traced : (w : Scene) (at : NodePort) (packet : Packet) → Continues start w → IsTraced w
        → (is_cable_port w.fabric at ≡ true → IsOnCourse Sends (Tells w.fabric) start at packet.bytes) → IsTraced (emitted_from w at packet)
    emits_traced w at packet c t on =
        let after = (after_emit w.fabric at packet).fabric in
        let stays = same_agents w.fabric after (emitted_agents Sends (Tells w.fabric) cables counts c.fabric.along c.fabric.is t.flights at packet) in
        record {
          flights = flights_later w.fabric after stays after.flights
              (emissions_trace Sends (Tells w.fabric) cables counts c.fabric.along c.fabric.is t.flights at packet on);
          handed = handed_later w.fabric after stays w.handed t.handed;
        }

    answers_traced : (w : Scene) (from : NodePort) (given : ℕ) (payload : List ℕ) (m : Option Handed) → Continues start w → IsTraced w → given < 2 ^ 15
        → length payload ≡ 64
        → ((h : Handed) → m ≡ Some h → IsForManager Sends (Tells w.fabric) start h.at h.packet.bytes) → IsTraced (answered_from w from given payload m)
    answers_traced w from given payload None c t small whole was = t
    answers_traced w from given payload (Some h) c t small whole was =
        cond_both (asks_manager from h) _ _ IsTraced
        (λ asks. sends_traced w from (answer_to h.packet given payload) c t
        (λ _. subst (IsOnCourse Sends (Tells w.fabric) start from) (sym (bytes_answered h.packet given payload))
        (traced.manager_traced Sends (Tells w.fabric) start cables counts h from given payload (was h refl) small whole asks
        (manager_tells w.fabric h given payload))))
        (λ _. t)

    -- whatever is sent; from the seat only what is the manager's own
    pub sending_traced : (w : Scene) (from : NodePort) (sending : Sending) → Continues start w → IsTraced w → CanSend from sending
        → (from ≡ seat → IsOwnSending sending) → IsTraced (sent w from sending)
    sending_traced w from (ByLid packet) c t can own = sends_traced w from packet c t
        (λ _. traced.other_traced Sends (Tells w.fabric) start from packet.bytes can.0 can.1)
    sending_traced w from (ByPath method attribute modifier tid path payload) c t (fits, low, short, begins) own =
        sends_traced w from _ c t (λ there. traced.sent_traced Sends (Tells w.fabric) start from method attribute modifier tid path payload fits low short
        begins
        (seat_in_port cables counts w.fabric c.fabric from there) own)
    sending_traced w from (Answer which given payload) c t (small, whole) own =
        answers_traced w from given payload (slice_get w.handed which) c t small whole
        (λ h e. traced.traced_there Sends (Tells w.fabric) start w.handed which h t.handed e)

    pub around_traced : (w : Scene) (event : Event) → Continues start w → IsTraced w → CanHappen event → IsElsewhere seat event
        → Stays w.fabric (after_event w event).fabric → IsTraced (after_event w event)
    around_traced w (Deliver n) c t can elsewhere stays =
        let s = w.fabric in
        let after = (after_deliver s n).fabric in
        let on = flights_later s after stays s.flights t.flights in
        let here : Continues start (record { fabric = s; handed = [] }) = record { fabric = c.fabric; handed = tt } in
        record {
          flights = deliveries_trace Sends (Tells after) cables counts c.fabric.along c.fabric.is on n (agent_tells s n here);
          handed = traced.traced_more Sends (Tells after) start w.handed _ (handed_later s after stays w.handed t.handed)
              (traced.traced_by Sends (Tells after) start (after_deliver s n).result
              (deliveries_hand_up_traced Sends (Tells after) cables counts c.fabric.along c.fabric.is on n));
        }
    around_traced w (Lose n) c t can elsewhere stays =
        record {
          flights = flights_later w.fabric (after_lose w.fabric n).fabric stays (after_lose w.fabric n).fabric.flights
              (losses_trace Sends (Tells w.fabric) cables counts c.fabric.along c.fabric.is t.flights n);
          handed = handed_later w.fabric (after_lose w.fabric n).fabric stays w.handed t.handed;
        }
    around_traced w (Repeat n) c t can elsewhere stays =
        record {
          flights = flights_later w.fabric (after_repeat w.fabric n).fabric stays (after_repeat w.fabric n).fabric.flights
              (copies_trace Sends (Tells w.fabric) cables counts c.fabric.along c.fabric.is t.flights n);
          handed = handed_later w.fabric (after_repeat w.fabric n).fabric stays w.handed t.handed;
        }
    around_traced w (Send from sending) c t can elsewhere stays = sending_traced w from sending c t can (λ same. absurd (elsewhere same))
    around_traced w (Emit at (ByLid packet)) c t (can, sets) elsewhere stays = emits_traced w at packet c t
        (λ _. traced.other_traced Sends (Tells w.fabric) start at packet.bytes can.0 can.1)
    around_traced w (Emit at (ByPath method attribute modifier tid path payload)) c t ((fits, low, short, begins), sets) elsewhere stays =
        emits_traced w at _ c t (λ there. traced.sent_traced Sends (Tells w.fabric) start at method attribute modifier tid path payload fits low short
        begins
        (cabled_in_port cables counts w.fabric c.fabric at there) (λ same. absurd (elsewhere same)))
    around_traced w (Emit at (Answer which given payload)) c t can elsewhere stays = absurd can
