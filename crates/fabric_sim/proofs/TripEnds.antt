-- There and back: the agent at the end of the path answers, and its answer comes to the manager.
use Rattle.std.proofs.Common.{◌≡◌, ◌≢◌, ℕ, zero, suc, ◌+◌, ◌*◌, ◌/◌, ◌%◌, ◌^◌, ◌<◌, ◌≤◌, ◌⊎◌, inl, inr, true, false, cond, ◌&&◌, ◌==◌, List, [], ◌∷◌, length, get_or, refl, sym, ap, ◌∙◌, subst, arith}
use Rattle.std.proofs.lemmas.Bool.{ne_eqb}
use Rattle.std.proofs.lemmas.List.Elements.{All-head, All-tail}
use Rattle.std.proofs.lemmas.List.{ext_get_or, get_or-drop, get_or-take, length-drop, length-take-le}
use Rattle.std.specs.Prelude.{Option, Some, None, Bool, slice_get, slice_set, slice_index, All, Ok, count_by, take, drop, not, ◌||◌}
use Rattle.std.specs.Option.{option_map_or}
use Rattle.fabric_model.specs.declared.cable.NodePort.{NodePort}
use Rattle.smp_bytes.specs.Header.{sm_info}
use Rattle.smp_bytes.specs.Field.{Field, number_in, bytes_in}
use Rattle.smp_bytes.specs.Packet as field
use Rattle.smp_bytes.specs.Packet.{is_directed, is_response, is_lid_routed, status}
use Rattle.smp_bytes.specs.Requests.{directed}
use Rattle.smp_bytes.specs.ReadBack.{FitsRequest, HoldsRequest, HoldsPath, HoldsAnswer}
use Rattle.fabric_model.specs.DirectedWalk.{directed_end}
use Rattle.smp_bytes.proofs.BitLaws.{byte-number_in}
use Rattle.fabric_model.proofs.DirectedWalks.{stops_along}
use Rattle.smp_bytes.proofs.FieldLaws.{number_in-alike}
use Rattle.smp_bytes.proofs.Made.{directed_reads_back}
use Rattle.smp_bytes.proofs.OffsetLaws.{bytes_in-alike}
use Rattle.dr_forward.specs.DirectedStep.{Stepped, moved_on}
use Rattle.dr_forward.proofs.Rows.{passed}
use Rattle.dr_forward.proofs.Trips.{IsKeptFrom, field_kept, IsRequestOver, IsOut, ComesToAgent, comes_to_agent, out_asks, out_directed, IsBack, Turns, turns}
use Rattle.node_agents.specs.Agent.{Agent, IsAgent, has_seat}
use Rattle.node_agents.specs.Answers.{after_request, after_answer, status_told, payload_told}
use Rattle.node_agents.specs.AnswerLaws.{IsPacket}
use Rattle.node_agents.proofs.Made.{agents_are_made}
use Rattle.node_agents.proofs.Outcomes.{answers_hold}
use Rattle.node_agents.proofs.SameRequests.{AskSame, agents_same, ToldSame, told_same}
use Rattle.node_agents.proofs.Shapes.{answered_keeps_shape, answered_is_agent}
use Rattle.fabric_sim.specs.declared.flight.Whereabouts.TheVariants.{Seat}
use Rattle.fabric_sim.specs.declared.flight.Flight.{Flight}
use Rattle.fabric_sim.specs.declared.delivered.Delivered.TheVariants as delivered_is
use Rattle.fabric_sim.specs.PacketOutcome.{Asks}
use Rattle.fabric_sim.specs.Simulation.{Simulation, IsSimulation, IsWaiting, agent_at, port_count, is_seat_at}
use Rattle.fabric_sim.specs.Simulation.{fabric_of, port_of, answer_whereabouts}
use Rattle.fabric_sim.specs.Flights.{flight_with, without_flight}
use Rattle.fabric_sim.specs.declared.delivered.Delivered.{Delivered}
use Rattle.fabric_sim.specs.Called.{Called}
use Rattle.fabric_sim.specs.Notice.{trap}
use Rattle.fabric_sim.specs.Delivery.{with_changed, with_flight, after_outcome, asked, answer_at, delivered_flight, after_deliver}
use Rattle.fabric_sim.specs.PacketOutcome.{by_verdict, carrying, is_for_manager, is_trap, outcome_of}
use Rattle.fabric_sim.specs.Changes.{after_inject}
use Rattle.fabric_sim.specs.Calls.{Call, Inject, Deliver, after_calls, is_delivery_of}
use Rattle.fabric_sim.specs.ThereAndBack.{ThereAndBack, directed_packet, BeginsWith, IsAnswerOver, IsAnsweredAt, ComesHome, KeepsPacket}
use Rattle.fabric_sim.proofs.TripFlights.{AreGiven, found_last, given_without}
use Rattle.fabric_sim.proofs.TripShapes.{AreAgents, IsAlong, agent_there, port_count_stays}
use Rattle.fabric_sim.proofs.TripCalls.{KeepAgents, along_call, along_calls}
use Rattle.fabric_sim.proofs.TripAdvances.{Advances, advanced}
use Rattle.fabric_sim.proofs.TripsOut.{Trip, IsOutThere, noted, noted_small, stop_in_port, at_stop, here, arrives, outcome_here, deliver_out}
use Rattle.fabric_sim.proofs.TripsBack.{IsBackThere, HandedUp, deliver_back, deliver_home}

pub keep : KeepAgents
keep =
    record {
      answered_node = λ a packet arrival. (answered_keeps_shape a packet arrival).node;
      answered_is = answered_is_agent;
      seated_is = agents_are_made.seated;
    }

-- the request as it is made --------------------------------------------------------------------

-- bits of a byte that is small are 0
high_bit : (byte : ℕ) → byte < 2 ^ 7 → (byte / 2 ^ 7 % 2 ^ 1 == 1) ≡ false
high_bit byte small = let none : byte / 2 ^ 7 ≡ 0 = omega (arith, small) in ap (λ n. n % 2 ^ 1 == 1) none

-- a word of 0 has a first byte of 0
word_of_bytes : (packet : List ℕ) → number_in field.status_word packet ≡ get_or packet 4 0 * 256 + get_or packet 5 0
word_of_bytes packet = omega (arith, get_or-drop 4 packet 0 0, get_or-drop 4 packet 1 0)

module _ {method attribute modifier tid : ℕ} {path payload : List ℕ} (fits : FitsRequest method attribute modifier tid payload)
    (low : method < 2 ^ 7) (short : length path ≤ 63) where
  pub request_over : IsRequestOver path (directed method attribute modifier tid path payload)
  request_over =
      let request = directed method attribute modifier tid path payload in
      let (holds, along) = directed_reads_back method attribute modifier tid path payload fits short in
      let byte : get_or request 3 0 < 2 ^ 7 = omega (arith, low, sym (byte-number_in 3 request) ∙ holds.method) in
      record {
        short = short;
        directed = ap (λ n. n == 0x81) along.class;
        outgoing = high_bit (get_or request 4 0) (omega (arith, word_of_bytes request, holds.status_word));
        asks = high_bit (get_or request 3 0) byte;
        hops = along.hop_count;
        ports = along.ports;
      }

-- what holds at the start ------------------------------------------------------------------------

pub agents_of : (agents : List Agent) → All IsAgent agents → AreAgents agents
agents_of [] all = tt
agents_of (a ∷ agents) all = (All-head IsAgent a agents all, agents_of agents (All-tail IsAgent a agents all))

pub given_of : (s : Simulation) (flights : List Flight) → All (IsWaiting s) flights → AreGiven s.next flights
given_of s [] all = tt
given_of s (f ∷ flights) all = ((All-head (IsWaiting s) f flights all).given, given_of s flights (All-tail (IsWaiting s) f flights all))

pub along_itself : (s : Simulation) → IsSimulation s → IsAlong s s
along_itself s is = record { nodes = refl; peers = refl; agents = agents_of s.agents is.agents; given = given_of s s.flights is.waiting; next = omega arith }

pub few_ports : (s : Simulation) → AreAgents s.agents → (id : ℕ) → port_count s id ≤ 254
few_ports s all id = by_agent (slice_get s.agents id) refl
  where
    by_agent : (o : Option Agent) → slice_get s.agents id ≡ o → option_map_or (λ (a : Agent). a.node.ports) o 0 ≤ 254
    by_agent None e = omega arith
    by_agent (Some a) e = (agent_there s.agents id a all e).node.ports.1

-- what the agent is asked and tells ------------------------------------------------------------

-- a packet on its way asks what it asked when it was sent
asks_as_sent : (request bytes : List ℕ) → length request ≡ 256 → length bytes ≡ 256 → IsKeptFrom request bytes → AskSame bytes request
asks_as_sent request bytes long count kept =
    record {
      method_is = field_kept field.method request bytes (inl (omega arith)) kept;
      attribute_is = field_kept field.attribute_id request bytes (inr (omega arith, omega arith)) kept;
      modifier_is = field_kept field.attribute_modifier request bytes (inr (omega arith, omega arith)) kept;
      data_is = bytes_in-alike field.attribute_data bytes request (omega (arith, count)) (omega (arith, long))
          (λ offset from less. kept offset (inr (omega arith, omega arith)));
    }

-- the turn -----------------------------------------------------------------------------------------

-- an agent is where a port is
pub agent_by_port : (s : Simulation) (id : ℕ) → 1 ≤ port_count s id → (a : Agent) × (agent_at s id ≡ Some a)
agent_by_port s id some = by_agent (slice_get s.agents id) refl
  where
    by_agent : (o : Option Agent) → slice_get s.agents id ≡ o → (a : Agent) × (agent_at s id ≡ Some a)
    by_agent None e = absurd (omega (arith, some, ap (λ o. option_map_or (λ (a : Agent). a.node.ports) o 0) e))
    by_agent (Some a) e = (a, e)

-- a seat is at a node with ports
seat_in_port : (s : Simulation) (p : NodePort) → AreAgents s.agents → is_seat_at s p ≡ true → 1 ≤ port_count s p.node
seat_in_port s p all seat = by_agent (slice_get s.agents p.node) refl
  where
    by_agent : (o : Option Agent) → slice_get s.agents p.node ≡ o → 1 ≤ port_count s p.node
    by_agent None e = absurd (cc (sym (ap (λ o. option_map_or (λ (a : Agent). has_seat a p.port) o false) e) ∙ seat))
    by_agent (Some a) e =
        let count : port_count s p.node ≡ a.node.ports = ap (λ o. option_map_or (λ (x : Agent). x.node.ports) o 0) e in
        omega (arith, count, (agent_there s.agents p.node a all e).node.ports.0)

-- the agent that is changed
set_there : (agents : List Agent) (id : ℕ) (a to : Agent) → slice_get agents id ≡ Some a → slice_get (slice_set agents id to) id ≡ Some to
set_there [] id a to h = absurd (cc)
set_there (x ∷ agents) zero a to h = refl
set_there (x ∷ agents) (suc id) a to h = set_there agents id a to h

pub changed_there : (agents : List Agent) (id : ℕ) (a : Agent) (change : Agent → Agent) → slice_get agents id ≡ Some a
    → slice_get (with_changed agents id change) id ≡ Some (change a)
changed_there agents id a change h =
    ap (λ o. slice_get (option_map_or (λ x. slice_set agents id (change x)) o agents) id) h ∙ set_there agents id a (change a) h

and_false : (b : Bool) → (b && false) ≡ false
and_false true = refl
and_false false = refl

module _ {start : Simulation} {origin end : NodePort} {path request : List ℕ} (t : Trip start origin end path request) (s : Simulation) (n : ℕ)
    (along : IsAlong start s) (left : s.next < 2 ^ 64) (no_manager : number_in field.attribute_id request ≢ sm_info) (some : 1 ≤ port_count start end.node)
    (whole : IsPacket request) (o : IsOutThere t s n (length path)) where
  at : NodePort
  at = port_of o.flight.whereabouts

  at_end : at ≡ end
  unfolding at
  at_end = at_stop t s n along (length path) o ∙ t.stops.last

  bytes : List ℕ
  bytes = moved_on (here t s n along (length path) o) o.flight.packet.bytes

  comes : ComesToAgent t.asks (noted t) (noted_small t) o.bytes (here t s n along (length path) o)
  comes = comes_to_agent t.asks (noted t) (noted_small t) o.bytes (here t s n along (length path) o) refl (arrives t s n along (length path) o)

  then : IsOut request (noted t) (length path + 1) bytes
  unfolding bytes
  then = comes.then

  asks_the_same : AskSame bytes request
  asks_the_same = asks_as_sent request bytes whole.count then.count then.kept

  no_business : (number_in field.attribute_id bytes == sm_info) ≡ false
  no_business = ne_eqb _ _ (λ e. no_manager (sym asks_the_same.attribute_is ∙ e))

  is_directed_there : is_directed bytes ≡ true
  is_directed_there = out_directed t.asks (noted t) (noted_small t) then

  no_trap : is_trap bytes ≡ false
  no_trap = ap (λ b. number_in field.method bytes == trap && not b) is_directed_there ∙ and_false (number_in field.method bytes == trap)

  for_nobody : is_for_manager s (port_of o.flight.whereabouts) bytes ≡ false
  for_nobody =
      ap (λ b. (b || is_trap bytes) && is_seat_at s (port_of o.flight.whereabouts)) no_business
      ∙ ap (λ b. b && is_seat_at s (port_of o.flight.whereabouts)) no_trap

  outcome_turn : outcome_of s o.flight.whereabouts o.flight.packet ≡ Asks bytes o.flight.packet.slid o.flight.packet.dlid
  unfolding bytes here
  outcome_turn =
      outcome_here t s n along (length path) o (omega arith)
      ∙ ap (λ (x : Stepped). by_verdict s (port_of o.flight.whereabouts) (carrying o.flight.packet x.packet) x.verdict) comes.step_is
      ∙ passed (is_response bytes) _ _ _ (out_asks t.asks (noted t) (noted_small t) then)
      (passed (is_for_manager s (port_of o.flight.whereabouts) bytes) _ _ _ for_nobody refl)

  turned_is : after_deliver s n ≡ record {
    fabric = asked s o.flight bytes o.flight.packet.slid o.flight.packet.dlid;
    result =
        Ok (delivered_is.Answered s.next);
  }
  unfolding after_deliver
  turned_is =
      ap (delivered_flight s) o.there
      ∙ ap (after_outcome s o.flight) outcome_turn
      ∙ passed (s.next == 2 ^ 64) _ _ _ (ne_eqb s.next (2 ^ 64) (λ e. omega (arith, e, left))) refl

  the_agent : (a : Agent) × (agent_at s end.node ≡ Some a)
  the_agent = agent_by_port s end.node (omega (arith, some, port_count_stays along end.node))

  pub agent : Agent
  agent = the_agent.0

  pub agent_there_is : agent_at s end.node ≡ Some agent
  unfolding agent
  agent_there_is = the_agent.1

  is_agent : IsAgent agent
  is_agent = agent_there s.agents end.node agent along.agents agent_there_is

  whole_bytes : IsPacket bytes
  whole_bytes = record { count = then.count; parses = then.parses }

  -- what the agent answers
  pub answer : List ℕ
  answer = (after_answer agent bytes end.port).packet

  answer_is : answer_at s at bytes ≡ answer
  unfolding answer at
  answer_is =
      ap (λ (p : NodePort). option_map_or (λ a. (after_answer a bytes p.port).packet) (agent_at s p.node) bytes) at_end
      ∙ ap (λ x. option_map_or (λ a. (after_answer a bytes end.port).packet) x bytes) agent_there_is

  pub answered_result : (after_deliver s n).result ≡ Ok (delivered_is.Answered s.next)
  answered_result = ap (λ (c : Called Delivered). c.result) turned_is

  pub answered_agent : agent_at (after_deliver s n).fabric end.node ≡ Some (after_answer agent request end.port).agent
  unfolding at
  answered_agent =
      ap (λ (c : Called Delivered). agent_at c.fabric end.node) turned_is
      ∙ ap (λ (p : NodePort). slice_get (with_changed s.agents p.node (λ a. (after_answer a bytes p.port).agent)) end.node) at_end
      ∙ changed_there s.agents end.node agent (λ a. (after_answer a bytes end.port).agent) agent_there_is
      ∙ ap (λ a. Some a) (agents_same agent bytes request end.port asks_the_same)

  -- the answer begins its way back
  pub turning : Turns path (noted t) answer
  unfolding answer after_answer
  turning =
      let told = (after_request agent bytes end.port).told in
      turns t.asks (noted t) (noted_small t) then (status_told told) (payload_told told bytes) (answers_hold agent bytes end.port is_agent whole_bytes)

  answer_flight : Flight
  answer_flight =
      record {
        serial = s.next;
        whereabouts = answer_whereabouts o.flight.whereabouts;
        packet = record { bytes = answer_at s at bytes; slid = o.flight.packet.slid; dlid = o.flight.packet.dlid };
      }

  pub back_begins : (own : BeginsWith origin.port path) → IsBackThere t own turning.reads (after_deliver s n).fabric s.next (length path)
  unfolding answer_flight at
  back_begins own =
      record {
        flight = answer_flight;
        there = ap (λ (c : Called Delivered). flight_with c.fabric.flights s.next) turned_is
            ∙ found_last (without_flight s.flights o.flight.serial) answer_flight (given_without s.flights o.flight.serial s.next along.given);
        whereabouts = record { last = λ e. ap answer_whereabouts o.whereabouts; before = λ less. absurd (omega (arith, less)) };
        bytes = subst (λ x. IsBack answer (noted t) (length path) (length path) x) (sym answer_is) turning.begins;
        most = omega arith;
      }

  -- what comes home tells what the agent told to the request
  pub record Tells (packet : List ℕ) : Type 0 where
    pub kept : IsKeptFrom answer packet
    pub count : length packet ≡ 256
    pub pointer : number_in field.hop_pointer packet ≡ 0

  module _ (packet : List ℕ) (tells : Tells packet) (holds_path : HoldsPath request path) (short : length path ≤ 63) where
    told : ToldSame (after_answer agent bytes end.port).packet (after_answer agent request end.port).packet
    told = told_same agent bytes request end.port is_agent whole_bytes whole asks_the_same

    answer_holds : HoldsAnswer bytes answer (status_told (after_request agent bytes end.port).told)
        (payload_told (after_request agent bytes end.port).told bytes)
    unfolding answer
    answer_holds = answers_hold agent bytes end.port is_agent whole_bytes

    from_answer : (f : Field) → (f.at + f.len ≤ 6) ⊎ ((7 ≤ f.at) × (f.at + f.len ≤ 192)) → number_in f packet ≡ number_in f answer
    from_answer f kept = field_kept f answer packet kept tells.kept

    from_request : (f : Field) → (7 ≤ f.at) × (f.at + f.len ≤ 64) → number_in f packet ≡ number_in f request
    from_request f within =
        from_answer f (inr (within.0, omega (arith, within.1)))
        ∙ number_in-alike f answer bytes (λ offset from less. answer_holds.kept offset (inr (inl (omega (arith, within.0), omega (arith, within.1)))))
        ∙ field_kept f request bytes (inr (within.0, omega (arith, within.1))) then.kept

    path_byte : (i : ℕ) → i < length path → get_or packet (129 + i) 0 ≡ slice_index path i
    path_byte i less =
        tells.kept (129 + i) (inr (omega arith, omega (arith, less, short)))
        ∙ answer_holds.kept (129 + i) (inr (inr (omega arith)))
        ∙ then.kept (129 + i) (inr (omega arith, omega (arith, less, short)))
        ∙ ap (λ at. get_or request at 0) (omega arith)
        ∙ sym (byte-number_in (128 + (i + 1)) request)
        ∙ holds_path.ports i less

    path_is : bytes_in (record { at = 129; len = length path }) packet ≡ path
    path_is =
        let size : length (take (length path) (drop 129 packet)) ≡ length path =
        length-take-le (length path) (drop 129 packet) (omega (arith, short, tells.count, length-drop 129 packet)) in
        ext_get_or 0 _ path size (λ i less.
        get_or-take (length path) (drop 129 packet) i 0 (omega (arith, less, size)) ∙ get_or-drop 129 packet i 0 ∙ path_byte i (omega (arith, less, size)))

    same_status : status packet ≡ status answer
    same_status =
        let class = from_answer field.mgmt_class (inl (omega arith)) in
        let word = from_answer field.status_word (inl (omega arith)) in
        (λ j. cond (class j == 0x81) (word j % 2 ^ 15) (word j))

    pub answers_over : IsAnswerOver path request (after_answer agent request end.port).packet packet
    unfolding answer
    answers_over =
        record {
          method = from_answer field.method (inl (omega arith)) ∙ answer_holds.method;
          returning = ap (λ b. b / 2 ^ 7 % 2 ^ 1 == 1) (tells.kept 4 (inl (omega arith))) ∙ turning.reads.returning;
          pointer = tells.pointer;
          hops = from_request field.hop_count (omega arith, omega arith) ∙ holds_path.hop_count;
          ports = path_is;
          transaction_id = from_request field.transaction_id (omega arith, omega arith);
          attribute_id = from_request field.attribute_id (omega arith, omega arith);
          attribute_modifier = from_request field.attribute_modifier (omega arith, omega arith);
          status = same_status ∙ told.status_is;
          attribute_data = bytes_in-alike field.attribute_data packet answer (omega (arith, tells.count)) (omega (arith, answer_holds.count))
              (λ offset from less. tells.kept offset (inr (omega arith, omega arith)))
              ∙ told.data_is;
        }

-- the law ----------------------------------------------------------------------------------------------

module _ (s : Simulation) (origin end : NodePort) (method attribute modifier tid : ℕ) (path payload : List ℕ) (is : IsSimulation s)
    (seat : is_seat_at s origin ≡ true) (left : s.next < 2 ^ 64) (fits : FitsRequest method attribute modifier tid payload) (low : method < 2 ^ 7)
    (no_manager : attribute ≢ sm_info) (short : length path ≤ 63) (own : BeginsWith origin.port path)
    (leads : directed_end (fabric_of s) origin path ≡ Some end) where
  made : List ℕ
  made = directed method attribute modifier tid path payload

  reads : HoldsRequest made method attribute modifier tid payload × HoldsPath made path
  unfolding made
  reads = directed_reads_back method attribute modifier tid path payload fits short

  whole_made : IsPacket made
  whole_made = record { count = reads.0.count; parses = reads.0.parses }

  all_agents : AreAgents s.agents
  all_agents = agents_of s.agents is.agents

  trip : Trip s origin end path made
  unfolding made
  trip =
      record {
        cables = is.cables;
        stops = stops_along (fabric_of s) origin path end leads;
        asks = request_over fits low short;
        counts = few_ports s all_agents;
      }

  -- a port of the end's node
  ports_at_end : 1 ≤ port_count s end.node
  ports_at_end = by_path path refl
    where
      by_path : (ports : List ℕ) → path ≡ ports → 1 ≤ port_count s end.node
      by_path [] e =
          let same : origin ≡ end =
          sym trip.stops.first ∙ ap trip.stops.at (omega (arith, ap length e)) ∙ trip.stops.last in
          subst (λ (p : NodePort). 1 ≤ port_count s p.node) same (seat_in_port s origin all_agents seat)
      by_path (p ∷ ports) e =
          let last : suc (length ports) ≡ length path = omega (arith, ap length e) in
          let there = stop_in_port trip (length ports) (omega (arith, last)) in
          let same : trip.stops.at (suc (length ports)) ≡ end = ap trip.stops.at last ∙ trip.stops.last in
          subst (λ (x : NodePort). 1 ≤ port_count s x.node) same (omega (arith, there.some, there.most))

  sent : Simulation
  sent = (after_inject s origin (directed_packet made)).fabric

  sent_is : sent ≡ with_flight s (Seat origin) (directed_packet made)
  unfolding sent after_inject
  sent_is =
      let no_lids : is_lid_routed made ≡ false = ap (λ n. n == 0x01) reads.1.class in
      ap (λ (c : Called ℕ). c.fabric)
      (passed (not (is_seat_at s origin)) _ _ _ (ap not seat)
      (passed (s.next == 2 ^ 64) _ _ _ (ne_eqb s.next (2 ^ 64) (λ e. omega (arith, e, left)))
      (ap (λ p. record { fabric = with_flight s (Seat origin) p; result = Ok s.next }) (passed (is_lid_routed made) _ _ _ no_lids refl))))

  along_sent : IsAlong s sent
  unfolding sent
  along_sent = along_call keep s (Inject origin (directed_packet made)) (along_itself s is)

  first_flight : Flight
  first_flight = record { serial = s.next; whereabouts = Seat origin; packet = directed_packet made }

  out_begins : IsOutThere trip sent s.next 0
  unfolding first_flight
  out_begins =
      record {
        flight = first_flight;
        there = ap (λ (x : Simulation). flight_with x.flights s.next) sent_is ∙ found_last s.flights first_flight (along_itself s is).given;
        whereabouts = refl;
        bytes = record {
          count = reads.0.count;
          parses = reads.0.parses;
          kept = λ offset h. refl;
          pointer = reads.1.hop_pointer;
          notes = λ i some less. absurd (omega (arith, less));
        };
      }

  out_advances : Advances s s.next (length path) (λ u k. IsOutThere trip u s.next k)
  out_advances =
      record {
        flies = λ u k o. (o.flight, o.there);
        keeps = λ u v k o same. record { flight = o.flight; there = same o.flight o.there; whereabouts = o.whereabouts; bytes = o.bytes };
        delivers = λ u k along o less. deliver_out trip u s.next along k o less;
      }

  module _ (there : List Call) (kept : All (KeepsPacket s.next) there) (count : count_by (is_delivery_of s.next) there ≡ length path) where
    arrived : Simulation
    arrived = after_calls there sent

    along_arrived : IsAlong s arrived
    unfolding arrived
    along_arrived = along_calls keep there sent along_sent

    at_last : IsOutThere trip arrived s.next (length path)
    unfolding arrived
    at_last =
        subst (IsOutThere trip (after_calls there sent) s.next) (omega (arith, count))
        (advanced keep out_advances there sent 0 along_sent out_begins kept (omega (arith, count)))

    module _ (more : arrived.next < 2 ^ 64) where
      no_business_made : number_in field.attribute_id made ≢ sm_info
      no_business_made e = no_manager (sym reads.0.attribute_id ∙ e)

      -- the agent answers
      the_answering : Agent
      the_answering = agent trip arrived s.next along_arrived more no_business_made ports_at_end whole_made at_last

      answered_at : IsAnsweredAt arrived s.next made end the_answering
      unfolding the_answering
      answered_at =
          record {
            there = agent_there_is trip arrived s.next along_arrived more no_business_made ports_at_end whole_made at_last;
            result = answered_result trip arrived s.next along_arrived more no_business_made ports_at_end whole_made at_last;
            after = answered_agent trip arrived s.next along_arrived more no_business_made ports_at_end whole_made at_last;
          }

      turned : Simulation
      turned = (after_deliver arrived s.next).fabric

      along_turned : IsAlong s turned
      unfolding turned
      along_turned = along_call keep arrived (Deliver s.next) along_arrived

      its_answer : List ℕ
      its_answer = answer trip arrived s.next along_arrived more no_business_made ports_at_end whole_made at_last

      turns_there : Turns path (noted trip) its_answer
      unfolding its_answer
      turns_there = turning trip arrived s.next along_arrived more no_business_made ports_at_end whole_made at_last

      -- the answer on its way back, after so many deliveries
      record IsBackAfter (u : Simulation) (passed_by : ℕ) : Type 0 where
        pub stop : ℕ
        pub sum : stop + passed_by ≡ length path
        pub back_there : IsBackThere trip own turns_there.reads u arrived.next stop

      back_advances : Advances s arrived.next (length path) IsBackAfter
      back_advances =
          record {
            flies = λ u j o. (o.back_there.flight, o.back_there.there);
            keeps = λ u v j o same. record {
              stop = o.stop;
              sum = o.sum;
              back_there = record {
                flight = o.back_there.flight;
                there = same o.back_there.flight o.back_there.there;
                whereabouts = o.back_there.whereabouts;
                bytes = o.back_there.bytes;
                most = o.back_there.most;
              };
            };
            delivers = λ u j along o less. one_back u j along o.stop o.sum o.back_there less;
          }
        where
          one_back : (u : Simulation) (j : ℕ) → IsAlong s u → (k : ℕ) → k + j ≡ length path
              → IsBackThere trip own turns_there.reads u arrived.next k → j < length path
              → IsBackAfter (after_deliver u arrived.next).fabric (suc j)
          one_back u j along zero sum o less = absurd (omega (arith, sum, less))
          one_back u j along (suc k) sum o less =
              record { stop = k; sum = omega (arith, sum); back_there = deliver_back trip own turns_there.reads u arrived.next along (suc k) o k refl }

      begins_back : IsBackAfter turned 0
      unfolding turned turns_there its_answer
      begins_back =
          record {
            stop = length path;
            sum = omega arith;
            back_there = back_begins trip arrived s.next along_arrived more no_business_made ports_at_end whole_made at_last own;
          }

      module _ (back : List Call) (kept_back : All (KeepsPacket arrived.next) back)
          (count_back : count_by (is_delivery_of arrived.next) back ≡ length path) where
        last : Simulation
        last = after_calls back turned

        along_last : IsAlong s last
        unfolding last
        along_last = along_calls keep back turned along_turned

        home : IsBackAfter last (length path)
        unfolding last
        home =
            subst (IsBackAfter (after_calls back turned)) (omega (arith, count_back))
            (advanced keep back_advances back turned 0 along_turned begins_back kept_back (omega (arith, count_back)))

        handed : HandedUp trip own turns_there.reads last arrived.next along_last home.stop home.back_there
        handed = deliver_home trip own turns_there.reads last arrived.next along_last home.stop home.back_there (omega (arith, home.sum))

        comes_home : ComesHome last arrived.next origin path made (after_answer the_answering made end.port).packet
        unfolding the_answering turns_there its_answer
        comes_home =
            record {
              packet = handed.packet;
              result = handed.result;
              answer = answers_over trip arrived s.next along_arrived more no_business_made ports_at_end whole_made at_last handed.packet.bytes
                  (subst (Tells trip arrived s.next along_arrived more no_business_made ports_at_end whole_made at_last) (sym handed.bytes)
                  (record { kept = handed.home.kept; count = handed.home.count; pointer = handed.home.pointer })) reads.1 short;
            }

pub there_and_back : ThereAndBack
unfolding made sent arrived turned last
there_and_back s origin end method attribute modifier tid path payload is seat left fits low no_manager whole short small own leads there back out more =
    let kept = out.0 in
    let count = out.1 in (
      the_answering s origin end method attribute modifier tid path payload is seat left fits low no_manager short own leads there kept count more,
      answered_at s origin end method attribute modifier tid path payload is seat left fits low no_manager short own leads there kept count more,
      λ home. comes_home s origin end method attribute modifier tid path payload is seat left fits low no_manager short own leads there kept count more back
          home.0 home.1,
    )
