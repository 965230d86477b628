-- Packets that are not on directed routes set nothing but SMInfo, as long as none is sent that does; and what a delivery asks an agent.
use Rattle.std.proofs.Common.{◌≡◌, ◌⊎◌, inl, inr, ℕ, ◌+◌, ◌-◌, ◌^◌, ◌<◌, ◌≤◌, Bool, true, false, cond, List, [], ◌∷◌, ◌++◌}
use Rattle.std.proofs.Common.{length, refl, sym, ap, ◌∙◌, subst, arith}
use Rattle.std.proofs.lemmas.Bool.{cond_both}
use Rattle.std.specs.Prelude.{Option, Some, None, Result, Ok, Err, not, ◌==◌, ◌&&◌, ◌||◌, nat_lt, is_none, is_some}
use Rattle.std.specs.Option.{option_map_or}
use Rattle.fabric_model.specs.declared.cable.NodePort.{NodePort}
use Rattle.fabric_model.specs.declared.course.Course.{Course}
use Rattle.fabric_model.specs.declared.course.Course.TheVariants as course_is
use Rattle.fabric_model.specs.Forwarding.{course}
use Rattle.smp_bytes.specs.Header.{get_resp, set}
use Rattle.smp_bytes.specs.Field.{number_in}
use Rattle.smp_bytes.specs.Packet.{fault_of, hop_count, hop_pointer, is_directed, is_response, is_returning, method}
use Rattle.dr_forward.specs.DirectedStep.{Stepped, is_port, moved_on, pointed, step}
use Rattle.dr_forward.specs.declared.here.Here.{Here}
use Rattle.dr_forward.specs.declared.verdict.Verdict.{Verdict}
use Rattle.dr_forward.specs.declared.verdict.Verdict.TheVariants.{Out, ToAgent, ToManager, Discard}
use Rattle.dr_forward.proofs.Rows.{moved_on_is, pointed_is}
use Rattle.dr_forward.proofs.Trips.{IsKeptFrom, back_returning, field_kept}
use Rattle.node_agents.specs.Agent.{Agent}
use Rattle.node_agents.specs.Answers.{after_answer}
use Rattle.node_agents.proofs.Outcomes.{answers_hold}
use Rattle.node_agents.proofs.SameRequests.{AskSame}
use Rattle.smp_bytes.proofs.OffsetLaws.{bytes_in-alike}
use Rattle.fabric_sim.specs.declared.packet.Packet.{Packet}
use Rattle.fabric_sim.specs.declared.flight.Whereabouts.{Whereabouts}
use Rattle.fabric_sim.specs.declared.flight.Whereabouts.TheVariants.{Arrived, Made, Seat}
use Rattle.fabric_sim.specs.declared.flight.Flight.{Flight}
use Rattle.fabric_sim.specs.declared.delivered.Delivered.{Delivered}
use Rattle.fabric_sim.specs.declared.delivered.Delivered.TheVariants as delivered_is
use Rattle.fabric_sim.specs.declared.delivered.Reason.TheVariants.{Down}
use Rattle.fabric_sim.specs.declared.fabric_fault.FabricFault.{FabricFault}
use Rattle.fabric_sim.specs.declared.fabric_fault.FabricFault.TheVariants.{NoSuchPacket, SerialsSpent}
use Rattle.fabric_sim.specs.Called.{Called, refused}
use Rattle.fabric_sim.specs.Notice.{trap_repress}
use Rattle.fabric_sim.specs.Changes.{addressed, after_emit, after_inject, after_lose, after_repeat, copied}
use Rattle.fabric_sim.specs.Delivery.{after_deliver, after_enqueue, after_outcome, answer_at, asked, delivered_flight}
use Rattle.fabric_sim.specs.PacketOutcome.{by_course, by_verdict, carrying, here_at}
use Rattle.fabric_sim.specs.Delivery.{with_changed}
use Rattle.fabric_sim.specs.PacketOutcome.{is_for_manager, leaving, outcome_of}
use Rattle.fabric_sim.specs.PacketOutcome.{Outcome, Moves, Asks, HandsUp, Represses, Drops}
use Rattle.fabric_sim.specs.Simulation.{Simulation, AreCables, IsSimulation, across, agent_at, fabric_of, is_at_seat}
use Rattle.fabric_sim.specs.Simulation.{is_by_wire, is_cable_port}
use Rattle.fabric_sim.specs.Flights.{flight_with, is_numbered, with_moved, without_flight}
use Rattle.fabric_sim.specs.Simulation.{is_seat_at, port_count, port_of}
use Rattle.fabric_sim.proofs.Kept.{found_waits}
use Rattle.fabric_sim.proofs.Traced.{Fares, IsForAgent, IsOnCourse, fares_well}
use Rattle.fabric_sim.proofs.TracedCalls.{AreTraced}
use Rattle.fabric_sim.proofs.TripShapes.{IsAlong, agent_there}
use Rattle.fabric_sim.proofs.Walks.{noted}
use Rattle.smp_bytes.specs.Packet as field
use Rattle.manager_laws.proofs.Scenes.{SetsInfoAlone}

-- a packet that is not directed sets nothing but SMInfo
abbrev pub IsHarmless : List ℕ → Type 0
IsHarmless bytes = is_directed bytes ≡ false → SetsInfoAlone bytes

abbrev pub AreHarmless : List Flight → Type 0
AreHarmless [] = Unit {0}
AreHarmless (f ∷ flights) = IsHarmless f.packet.bytes × AreHarmless flights

pub directed_harmless : (bytes : List ℕ) → is_directed bytes ≡ true → IsHarmless bytes
directed_harmless bytes directed other = absurd (cc (sym directed ∙ other))

-- lists of them ----------------------------------------------------------------------------------

found_harmless : (flights : List Flight) (n : ℕ) (f : Flight) → AreHarmless flights → flight_with flights n ≡ Some f → IsHarmless f.packet.bytes
found_harmless [] n f all h = absurd (cc)
found_harmless (x ∷ flights) n f all h = by_first (is_numbered n x) h (found_harmless flights n f all.1)
  where
    by_first : (b : Bool) → cond b (Some x) (flight_with flights n) ≡ Some f → (flight_with flights n ≡ Some f → IsHarmless f.packet.bytes)
        → IsHarmless f.packet.bytes
    by_first true e later = let same : x ≡ f = cc in subst (λ (g : Flight). IsHarmless g.packet.bytes) same all.0
    by_first false e later = later e

harmless_without : (flights : List Flight) (n : ℕ) → AreHarmless flights → AreHarmless (without_flight flights n)
harmless_without [] n all = tt
harmless_without (x ∷ flights) n all = by_first (not (is_numbered n x)) (harmless_without flights n all.1)
  where
    by_first : (b : Bool) → AreHarmless (without_flight flights n) → AreHarmless (cond b (x ∷ without_flight flights n) (without_flight flights n))
    by_first true rest = (all.0, rest)
    by_first false rest = rest

harmless_moved : (flights : List Flight) (moved : Flight) → IsHarmless moved.packet.bytes → AreHarmless flights → AreHarmless (with_moved flights moved)
harmless_moved [] moved is all = tt
harmless_moved (x ∷ flights) moved is all = (by_first (is_numbered moved.serial x), harmless_moved flights moved is all.1)
  where
    by_first : (b : Bool) → IsHarmless (cond b moved x).packet.bytes
    by_first true = is
    by_first false = all.0

harmless_more : (flights : List Flight) (more : Flight) → AreHarmless flights → IsHarmless more.packet.bytes → AreHarmless (flights ++ more ∷ [])
harmless_more [] more all is = (is, tt)
harmless_more (x ∷ flights) more all is = (all.0, harmless_more flights more all.1 is)

-- a step of a directed route ----------------------------------------------------------------------

module _ (bytes : List ℕ) (long : length bytes ≡ 256) (directed : is_directed bytes ≡ true) (most : number_in hop_pointer bytes ≤ 64)
    (less : is_returning bytes ≡ false → number_in hop_pointer bytes < 64) where
  still_directed : (new : List ℕ) → IsKeptFrom bytes new → is_directed new ≡ true
  still_directed new kept = ap (λ n. n == 0x81) (field_kept (record { at = 1; len = 1 }) bytes new (inl (omega arith)) kept) ∙ directed

  -- it is a packet that asks for what it asked for
  abbrev Well : Stepped → Type 0
  Well x = (length x.packet ≡ 256) × IsKeptFrom bytes x.packet

  unchanged : Well (record { packet = bytes; verdict = ToAgent })
  unchanged = (long, λ offset k. refl)

  pointed_well : (pointer : ℕ) → pointer < 256 → (length (pointed pointer bytes) ≡ 256) × IsKeptFrom bytes (pointed pointer bytes)
  pointed_well pointer small = let is = pointed_is bytes long pointer small in (is.count, is.kept)

  moved_well : (here : Here) → is_returning bytes ≡ false → (length (moved_on here bytes) ≡ 256) × IsKeptFrom bytes (moved_on here bytes)
  moved_well here out = let is = moved_on_is bytes long here (less out) in (is.count, is.kept)

  stepped_well : (here : Here) → (length (step here bytes).packet ≡ 256) × IsKeptFrom bytes (step here bytes).packet
  stepped_well here =
      cond_both (is_returning bytes) _ _ Well
      (λ _. cond_both (number_in hop_pointer bytes == 0) _ _ Well (λ _. unchanged)
      (λ _. cond_both (number_in hop_pointer bytes == 1) _ _ Well (λ _. pointed_well 0 (omega arith))
      (λ _. cond_both (nat_lt (number_in hop_count bytes) (number_in hop_pointer bytes) || here.is_switch) _ _ Well
      (λ _. cond_both (is_port here (number_in (field.return_path (number_in hop_pointer bytes - 1)) bytes)) _ _ Well
      (λ _. pointed_well (number_in hop_pointer bytes - 1) (omega (arith, most))) (λ _. unchanged))
      (λ _. unchanged))))
      (λ out. cond_both (nat_lt (number_in hop_pointer bytes) (number_in hop_count bytes)) _ _ Well
      (λ _. cond_both (number_in hop_pointer bytes == 0 || here.is_switch) _ _ Well
      (λ _. cond_both (is_port here (number_in (field.initial_path (number_in hop_pointer bytes + 1)) bytes)) _ _ Well
      (λ _. moved_well here out) (λ _. unchanged))
      (λ _. unchanged))
      (λ _. cond_both (number_in hop_pointer bytes == number_in hop_count bytes) _ _ Well (λ _. moved_well here out) (λ _. unchanged)))

  stepped_same : (here : Here) → AskSame (step here bytes).packet bytes
  stepped_same here =
      let (count, kept) = stepped_well here in
      record {
        method_is = field_kept method bytes (step here bytes).packet (inl (omega arith)) kept;
        attribute_is = field_kept field.attribute_id bytes (step here bytes).packet (inr (omega arith, omega arith)) kept;
        modifier_is = field_kept field.attribute_modifier bytes (step here bytes).packet (inr (omega arith, omega arith)) kept;
        data_is = bytes_in-alike field.attribute_data (step here bytes).packet bytes (omega (arith, count)) (omega (arith, long))
            (λ offset from under. kept offset (inr (omega (arith, from), omega (arith, under))));
      }

asks_itself : (bytes : List ℕ) → AskSame bytes bytes
asks_itself bytes = record { method_is = refl; attribute_is = refl; modifier_is = refl; data_is = refl }

-- what becomes of a packet --------------------------------------------------------------------------

-- an agent is asked what the packet on its way asks
abbrev HarmlessOutcome : List ℕ → Outcome → Type 0
HarmlessOutcome old (Moves whereabouts packet) = IsHarmless packet.bytes
HarmlessOutcome old (Asks request slid dlid) = IsHarmless request × AskSame request old
HarmlessOutcome old outcome = Unit {0}

module _ (s : Simulation) (p : NodePort) (old : List ℕ) where
  abbrev Fine : Outcome → Type 0
  Fine o = HarmlessOutcome old o

  leaving_harmless : (out : NodePort) (x : Packet) → IsHarmless x.bytes → Fine (leaving s out x)
  leaving_harmless out x is = by_cable (across s.peers out)
    where
      by_cable : (m : Option NodePort) → Fine (option_map_or (λ into. Moves (Arrived into) x) m (Drops Down))
      by_cable None = tt
      by_cable (Some into) = is

  verdict_harmless : (x : Packet) → IsHarmless x.bytes → AskSame x.bytes old → (v : Verdict) → Fine (by_verdict s p x v)
  verdict_harmless x is same (Out port) = leaving_harmless (record { node = p.node; port = port }) x is
  verdict_harmless x is same ToAgent =
      cond_both (is_response x.bytes) _ _ Fine (λ _. tt) (λ _. cond_both (is_for_manager s p x.bytes) _ _ Fine (λ _. tt) (λ _. (is, same)))
  verdict_harmless x is same ToManager = tt
  verdict_harmless x is same (Discard reason) = tt

  course_harmless : (x : Packet) → IsHarmless x.bytes → AskSame x.bytes old → (c : Course) → Fine (by_course s p x c)
  course_harmless x is same (course_is.Delivers q) =
      cond_both (is_response x.bytes || is_for_manager s p x.bytes) _ _ Fine (λ _. tt)
      (λ _. cond_both (number_in method x.bytes == trap_repress) _ _ Fine (λ _. tt) (λ _. (is, same)))
  course_harmless x is same (course_is.LeavesBy out) = leaving_harmless out x is
  course_harmless x is same course_is.Drops = tt

module _ (Sends : NodePort → List ℕ → Type 0) (Tells : NodePort → NodePort → List ℕ → Type 0) {start s : Simulation} (cables : AreCables start)
    (counts : (id : ℕ) → port_count start id ≤ 254) (along : IsAlong start s) (is : IsSimulation s) (on : AreTraced Sends Tells start s.flights)
    (harmless : AreHarmless s.flights) where
  -- how far a directed packet has come
  pointer_most : (p : NodePort) (bytes : List ℕ) → IsOnCourse Sends Tells start p bytes → is_directed bytes ≡ true
      → (number_in hop_pointer bytes ≤ 64) × (is_returning bytes ≡ false → number_in hop_pointer bytes < 64)
  pointer_most p bytes course_on directed =
      let (hops, at) = course_on.course directed in
      elim at [
        | inl r ↦ (omega (arith, r.bytes_are.pointer, r.most, r.over.short), λ _. omega (arith, r.bytes_are.pointer, r.most, r.over.short))
        | inr r ↦ (
          omega (arith, r.bytes_are.pointer, r.most, r.is.reads.short),
          λ out. absurd (cc (sym out ∙ back_returning r.is.reads (noted (fabric_of start) r.origin r.path) r.bytes_are)),
        )
      ]

  outcome_harmless : (whereabouts : Whereabouts) (packet : Packet) → IsOnCourse Sends Tells start (port_of whereabouts) packet.bytes
      → IsHarmless packet.bytes → HarmlessOutcome packet.bytes (outcome_of s whereabouts packet)
  unfolding outcome_of
  outcome_harmless whereabouts packet course_on its =
      let p = port_of whereabouts in
      cond_both (is_some (fault_of packet.bytes)) _ _ (HarmlessOutcome packet.bytes) (λ _. tt)
      (λ _. cond_both (not (is_at_seat whereabouts) && is_none (across s.peers p)) _ _ (HarmlessOutcome packet.bytes) (λ _. tt)
      (λ _. cond_both (is_directed packet.bytes) _ _ (HarmlessOutcome packet.bytes)
      (λ e. let (most, less) = pointer_most p packet.bytes course_on e in
      let new = (step (here_at s p) packet.bytes).packet in
      let kept = (stepped_well packet.bytes course_on.count e most less (here_at s p)).1 in
      verdict_harmless s p packet.bytes (carrying packet new)
      (directed_harmless new (still_directed packet.bytes course_on.count e most less new kept))
      (stepped_same packet.bytes course_on.count e most less (here_at s p))
      (step (here_at s p) packet.bytes).verdict)
      (λ e. course_harmless s p packet.bytes packet its (asks_itself packet.bytes)
      (course (fabric_of s) packet.dlid (record { at = p; by_wire = is_by_wire whereabouts })))))

  -- a request that a delivery brings to an agent
  pub record Asked (n : ℕ) : Type 0 where
    pub at : NodePort
    pub request : List ℕ
    pub for_agent : IsForAgent Sends Tells start at request
    pub its : IsHarmless request
    -- as the packet that was on its way asks
    pub flight : Flight
    pub waits : flight_with s.flights n ≡ Some flight
    pub at_is : port_of flight.whereabouts ≡ at
    pub same : AskSame request flight.packet.bytes
    pub port : is_cable_port s at ≡ true
    pub agents : (after_deliver s n).fabric.agents ≡ with_changed s.agents at.node (λ a. (after_answer a request at.port).agent)

  -- none is brought
  pub record NobodyAsked (n : ℕ) : Type 0 where
    pub agents : (after_deliver s n).fabric.agents ≡ s.agents
    pub unanswered : (k : ℕ) → (after_deliver s n).result ≡ Ok (delivered_is.Answered k) → ⊥

  found_on : (flights : List Flight) (n : ℕ) (f : Flight) → AreTraced Sends Tells start flights → flight_with flights n ≡ Some f
      → IsOnCourse Sends Tells start (port_of f.whereabouts) f.packet.bytes
  found_on [] n f all h = absurd (cc)
  found_on (x ∷ flights) n f all h = by_first (is_numbered n x) h (found_on flights n f all.1)
    where
      by_first : (b : Bool) → cond b (Some x) (flight_with flights n) ≡ Some f
          → (flight_with flights n ≡ Some f → IsOnCourse Sends Tells start (port_of f.whereabouts) f.packet.bytes)
          → IsOnCourse Sends Tells start (port_of f.whereabouts) f.packet.bytes
      by_first true e later =
          let same : x ≡ f = cc in subst (λ (g : Flight). IsOnCourse Sends Tells start (port_of g.whereabouts) g.packet.bytes) same all.0
      by_first false e later = later e

  -- the agent's answer sets nothing
  answer_harmless : (p : NodePort) (request : List ℕ) → IsForAgent Sends Tells start p request → IsHarmless request → IsHarmless (answer_at s p request)
  answer_harmless p request r its = by_agent (agent_at s p.node) refl
    where
      by_agent : (m : Option Agent) → agent_at s p.node ≡ m → IsHarmless (option_map_or (λ a. (after_answer a request p.port).packet) m request)
      by_agent None there other sets = its other sets
      by_agent (Some a) there other sets =
          let answers = (answers_hold a request p.port (agent_there s.agents p.node a along.agents there) r.whole).method in
          let clash : get_resp ≡ set = sym answers ∙ sets in absurd (omega (arith, clash))

  module _ (n : ℕ) where
    by_outcome : (flight : Flight) (o : Outcome) → Fares Sends Tells start (port_of flight.whereabouts) o → HarmlessOutcome flight.packet.bytes o
        → AreHarmless (after_outcome s flight o).fabric.flights
    unfolding Fares
    by_outcome flight (Moves whereabouts packet) well its = harmless_moved s.flights _ its harmless
    by_outcome flight (Asks request slid dlid) well its =
        cond_both (s.next == 2 ^ 64) _ _ (λ (c : Called Delivered). AreHarmless c.fabric.flights) (λ _. harmless)
        (λ _. harmless_more (without_flight s.flights flight.serial) _ (harmless_without s.flights flight.serial harmless)
        (answer_harmless (port_of flight.whereabouts) request well its.0))
    by_outcome flight outcome well its = harmless_without s.flights flight.serial harmless

    pub delivered_harmless : AreHarmless (after_deliver s n).fabric.flights
    unfolding after_deliver
    delivered_harmless = by_flight (flight_with s.flights n) refl
      where
        by_flight : (m : Option Flight) → flight_with s.flights n ≡ m → AreHarmless (delivered_flight s m).fabric.flights
        by_flight None e = harmless
        by_flight (Some flight) e =
            let course_on = found_on s.flights n flight on e in
            by_outcome flight (outcome_of s flight.whereabouts flight.packet)
            (fares_well Sends Tells start s cables counts along flight.whereabouts flight.packet course_on)
            (outcome_harmless flight.whereabouts flight.packet course_on (found_harmless s.flights n flight harmless e))

    brings : (flight : Flight) → flight_with s.flights n ≡ Some flight → (o : Outcome) → outcome_of s flight.whereabouts flight.packet ≡ o
        → after_deliver s n ≡ after_outcome s flight o
    unfolding after_deliver
    brings flight there o e = ap (delivered_flight s) there ∙ ap (after_outcome s flight) e

    refusal_is : (k : ℕ) → ◌≡◌ {A = Result Delivered FabricFault} (Err SerialsSpent) (Ok (delivered_is.Answered k)) → ⊥
    refusal_is k e = cc

    no_packet_is : (k : ℕ) → ◌≡◌ {A = Result Delivered FabricFault} (Err NoSuchPacket) (Ok (delivered_is.Answered k)) → ⊥
    no_packet_is k e = cc

    none_is : flight_with s.flights n ≡ None → after_deliver s n ≡ refused s NoSuchPacket
    unfolding after_deliver
    none_is e = ap (delivered_flight s) e

    none_brought : flight_with s.flights n ≡ None → NobodyAsked n
    none_brought e =
        let is = none_is e in
        record {
          agents = ap (λ (c : Called Delivered). c.fabric.agents) is;
          unanswered = λ k answered. no_packet_is k (sym (ap (λ (c : Called Delivered). c.result) is) ∙ answered);
        }

    nobody : (flight : Flight) → flight_with s.flights n ≡ Some flight → (o : Outcome) → outcome_of s flight.whereabouts flight.packet ≡ o
        → (after_outcome s flight o).fabric.agents ≡ s.agents
        → ((k : ℕ) → (after_outcome s flight o).result ≡ Ok (delivered_is.Answered k) → ⊥) → NobodyAsked n
    nobody flight there o e same none =
        let is = brings flight there o e in
        record {
          agents = ap (λ (c : Called Delivered). c.fabric.agents) is ∙ same;
          unanswered = λ k answered. none k (sym (ap (λ (c : Called Delivered). c.result) is) ∙ answered);
        }

    asks_by : (flight : Flight) → flight_with s.flights n ≡ Some flight → (o : Outcome) → outcome_of s flight.whereabouts flight.packet ≡ o
        → Fares Sends Tells start (port_of flight.whereabouts) o → HarmlessOutcome flight.packet.bytes o
        → NobodyAsked n ⊎ Asked n
    unfolding Fares
    asks_by flight there (Moves whereabouts packet) e well its = inl (nobody flight there (Moves whereabouts packet) e refl (λ k h. cc))
    asks_by flight there (HandsUp packet) e well its = inl (nobody flight there (HandsUp packet) e refl (λ k h. cc))
    asks_by flight there (Represses number) e well its = inl (nobody flight there (Represses number) e refl (λ k h. cc))
    asks_by flight there (Drops reason) e well its = inl (nobody flight there (Drops reason) e refl (λ k h. cc))
    asks_by flight there (Asks request slid dlid) e well its = by_serial (s.next == 2 ^ 64) refl
      where
        after : (b : Bool) → (s.next == 2 ^ 64) ≡ b → after_deliver s n
            ≡ cond b (refused s SerialsSpent) (record { fabric = asked s flight request slid dlid; result = Ok (delivered_is.Answered s.next) })
        after b left =
            brings flight there (Asks request slid dlid) e
            ∙ ap (λ t. cond t (refused s SerialsSpent) (record { fabric = asked s flight request slid dlid; result = Ok (delivered_is.Answered s.next) })) left

        by_serial : (b : Bool) → (s.next == 2 ^ 64) ≡ b → NobodyAsked n ⊎ Asked n
        by_serial true spent =
            let is = after true spent in
            inl (record {
              agents = ap (λ (c : Called Delivered). c.fabric.agents) is;
              unanswered = λ k answered. refusal_is k (sym (ap (λ (c : Called Delivered). c.result) is) ∙ answered);
            })
        by_serial false left =
            inr (record {
              at = port_of flight.whereabouts;
              request = request;
              for_agent = well;
              its = its.0;
              flight = flight;
              waits = there;
              at_is = refl;
              same = its.1;
              port = (found_waits s s.flights n flight is.waiting there).whereabouts.port;
              agents = ap (λ (c : Called Delivered). c.fabric.agents) (after false left);
            })

    pub asks_or_not : NobodyAsked n ⊎ Asked n
    asks_or_not = by_flight (flight_with s.flights n) refl
      where
        by_flight : (m : Option Flight) → flight_with s.flights n ≡ m → NobodyAsked n ⊎ Asked n
        by_flight None e = inl (none_brought e)
        by_flight (Some flight) e =
            let course_on = found_on s.flights n flight on e in
            asks_by flight e (outcome_of s flight.whereabouts flight.packet) refl
            (fares_well Sends Tells start s cables counts along flight.whereabouts flight.packet course_on)
            (outcome_harmless flight.whereabouts flight.packet course_on (found_harmless s.flights n flight harmless e))

  -- other calls --------------------------------------------------------------------------------------

  launched_harmless : (whereabouts : Whereabouts) (packet : Packet) → IsHarmless packet.bytes
      → AreHarmless (after_enqueue s whereabouts packet).fabric.flights
  launched_harmless whereabouts packet its =
      cond_both (s.next == 2 ^ 64) _ _ (λ (x : Called ℕ). AreHarmless x.fabric.flights) (λ _. harmless)
      (λ _. harmless_more s.flights (record { serial = s.next; whereabouts = whereabouts; packet = packet }) harmless its)

  pub injected_harmless : (p : NodePort) (packet : Packet) → IsHarmless packet.bytes → AreHarmless (after_inject s p packet).fabric.flights
  unfolding after_inject
  injected_harmless p packet its =
      cond_both (not (is_seat_at s p)) _ _ (λ (x : Called ℕ). AreHarmless x.fabric.flights) (λ _. harmless)
      (λ _. launched_harmless (Seat p) (addressed s p packet) (subst IsHarmless (sym same_bytes) its))
    where
      same_bytes : (addressed s p packet).bytes ≡ packet.bytes
      same_bytes = cond_both (field.is_lid_routed packet.bytes) _ _ (λ (x : Packet). x.bytes ≡ packet.bytes) (λ _. refl) (λ _. refl)

  pub emitted_harmless : (p : NodePort) (packet : Packet) → IsHarmless packet.bytes → AreHarmless (after_emit s p packet).fabric.flights
  unfolding after_emit
  emitted_harmless p packet its =
      cond_both (not (is_cable_port s p)) _ _ (λ (x : Called ℕ). AreHarmless x.fabric.flights) (λ _. harmless) (λ _. launched_harmless (Made p) packet its)

  pub copied_harmless : (n : ℕ) → AreHarmless (after_repeat s n).fabric.flights
  unfolding after_repeat
  copied_harmless n = by_flight (flight_with s.flights n) refl
    where
      by_flight : (m : Option Flight) → flight_with s.flights n ≡ m → AreHarmless (copied s m).fabric.flights
      by_flight None e = harmless
      by_flight (Some flight) e = launched_harmless flight.whereabouts flight.packet (found_harmless s.flights n flight harmless e)

  pub lost_harmless : (n : ℕ) → AreHarmless (after_lose s n).fabric.flights
  unfolding after_lose
  lost_harmless n =
      cond_both (is_none (flight_with s.flights n)) _ _ (λ (x : Called (Unit {0})). AreHarmless x.fabric.flights) (λ _. harmless)
      (λ _. harmless_without s.flights n harmless)
