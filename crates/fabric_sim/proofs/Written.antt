-- What the bodies write is what the calls are to leave.
use Rattle.std.proofs.Common.{◌≡◌, ℕ, ◌+◌, ◌^◌, ◌<◌, Bool, true, false, List, [], ◌∷◌, ◌++◌, length, get_or, take, drop, refl, arith, ap, sym, ◌∙◌, subst}
use Rattle.std.specs.Prelude.{Option, Some, None, is_some, IfSome, OnSome, SomeIff, remove, slice_get, slice_set, ◌==◌}
use Rattle.std.specs.Option.{option_map_or}
use Rattle.std.proofs.lemmas.Bool.{ne_eqb}
use Rattle.std.proofs.lemmas.List.{take_at}
use Rattle.std.proofs.lemmas.Option.{slice_get_within, get_or_from_slice_get}
use Rattle.fabric_model.specs.declared.cable.NodePort.{NodePort}
use Rattle.node_agents.specs.Agent.{Agent, after_set_wired}
use Rattle.node_agents.specs.Answers.{after_answer}
use Rattle.fabric_sim.specs.declared.flight.Whereabouts.{Whereabouts}
use Rattle.fabric_sim.specs.declared.flight.Whereabouts.TheVariants.{Seat, Arrived}
use Rattle.fabric_sim.specs.PacketOutcome.{Moves, Drops}
use Rattle.fabric_sim.specs.declared.delivered.Reason.TheVariants.{Down}
use Rattle.fabric_sim.specs.declared.flight.Flight.{Flight}
use Rattle.fabric_sim.specs.declared.packet.Packet.{Packet}
use Rattle.fabric_sim.specs.Simulation.{Simulation, IsSimulation, CanWait, IsWaiting, HasPeerSlot, is_seat_at, across}
use Rattle.fabric_sim.specs.Simulation.{has_cable_port, port_of, answer_whereabouts, next_serial}
use Rattle.fabric_sim.specs.Flights.{IsFlightAt, without_flight}
use Rattle.fabric_sim.specs.Delivery.{with_changed, with_flight, without, moved_to, asked, answer_at}
use Rattle.fabric_sim.specs.PacketOutcome.{leaving}
use Rattle.fabric_sim.specs.Changes.{with_peer, changed_at}
use Rattle.fabric_sim.proofs.AgentLists.{at_agent, length-changed, cable_ports_stay}
use Rattle.fabric_sim.proofs.PeerLists.{length-with_peer, has_slot_after}
use Rattle.fabric_sim.proofs.Recabled.{wired_at, keeps_wired}
use Rattle.fabric_sim.proofs.Serials.{at_index, moved_at, without_at}
use Rattle.fabric_sim.proofs.Invariants.{moved_to_is, without_is, with_flight_is, asked_is}

-- moved -------------------------------------------------------------------------------

pub moved_now : (v s : Simulation) → v ≡ s → (i serial : ℕ) (whereabouts : Whereabouts) (packet : Packet) → IsSimulation v → IsFlightAt s.flights i serial
    → ◌≡◌ {A = Simulation} (record v { flights = slice_set v.flights i (record { serial = serial; whereabouts = whereabouts; packet = packet }) })
    (moved_to s serial whereabouts packet)
moved_now v s e i serial whereabouts packet is at =
    let new : Flight = record { serial = serial; whereabouts = whereabouts; packet = packet } in
    let there : IsFlightAt v.flights i serial = subst (λ w. IsFlightAt w.flights i serial) (sym e) at in
    let p = at_index v.flights i serial there in
    ap (λ fs. record v { flights = fs }) (sym (moved_at v.flights i new p.flight is.rising p.at p.number)) ∙ ap (λ w. moved_to w serial whereabouts packet) e

pub moved_valid : (v s : Simulation) → v ≡ s → (i serial : ℕ) (whereabouts : Whereabouts) (packet : Packet) → IsSimulation v → IsFlightAt s.flights i serial
    → CanWait s whereabouts
    → IsSimulation (record v { flights = slice_set v.flights i (record { serial = serial; whereabouts = whereabouts; packet = packet }) })
moved_valid v s e i serial whereabouts packet is at can =
    subst IsSimulation (sym (moved_now v s e i serial whereabouts packet is at)) (moved_to_is s serial whereabouts packet (subst IsSimulation e is) can)

-- taken away ----------------------------------------------------------------------------

-- what a queue holds after `remove`
pub removed : (old new : List Flight) (i serial n : ℕ) (r : Option Flight) → n ≡ length old → IsFlightAt old i serial
    → ((d : Flight) → i < n → r ≡ Some (get_or old i d)) → OnSome r (new ≡ remove old i) → new ≡ remove old i
removed old new i serial n r count at succeeds items =
    let p = at_index old i serial at in
    let within : i < length old = p.within in
    let some : r ≡ Some (get_or old i p.flight) = succeeds p.flight (omega arith) in
    let P : Option Flight → Type 0 = λ r. OnSome r (new ≡ remove old i) in
    subst P some items

pub without_now : (v s : Simulation) → v ≡ s → (i serial : ℕ) (flights : List Flight) → IsSimulation v → IsFlightAt s.flights i serial → flights
    ≡ remove v.flights i
    → ◌≡◌ {A = Simulation} (record v { flights = flights }) (without s serial)
without_now v s e i serial flights is at left =
    let there : IsFlightAt v.flights i serial = subst (λ w. IsFlightAt w.flights i serial) (sym e) at in
    let p = at_index v.flights i serial there in
    let gone = without_at v.flights i p.flight is.rising p.at in
    ap (λ fs. record v { flights = fs }) (left ∙ sym gone) ∙ (ap (λ n. without v n) p.number ∙ ap (λ w. without w serial) e)

pub without_valid : (v s : Simulation) → v ≡ s → (i serial : ℕ) (flights : List Flight) → IsSimulation v → IsFlightAt s.flights i serial → flights
    ≡ remove v.flights i
    → IsSimulation (record v { flights = flights })
without_valid v s e i serial flights is at left =
    subst IsSimulation (sym (without_now v s e i serial flights is at left)) (without_is s serial (subst IsSimulation e is))

-- one more -----------------------------------------------------------------------------

-- the number after one
pub next_after : (serial : ℕ) (r : Option ℕ) → serial < 2 ^ 64 → SomeIff r (serial + 1 < 2 ^ 64) (serial + 1) → next_serial r ≡ serial + 1
next_after serial None fits h = let past : (serial + 1 < 2 ^ 64) → ⊥ = h in by serial fits past
  where
    by : (serial : ℕ) → serial < 2 ^ 64 → ((serial + 1 < 2 ^ 64) → ⊥) → 2 ^ 64 ≡ serial + 1
    by serial fits past = omega arith
next_after serial (Some n) fits h = h.1

pub launched_valid : (v s : Simulation) → v ≡ s → (serial next : ℕ) (whereabouts : Whereabouts) (packet : Packet) (flights : List Flight) → IsSimulation v
    → CanWait s whereabouts
    → v.next ≡ serial → serial < 2 ^ 64 → flights ≡ v.flights ++ record { serial = serial; whereabouts = whereabouts; packet = packet } ∷ [] → next ≡ serial + 1
    → IsSimulation (record v { flights = flights; next = next })
launched_valid v s e serial next whereabouts packet flights is can now fits more after =
    let can_v : CanWait v whereabouts = subst (λ w. CanWait w whereabouts) (sym e) can in
    let left : v.next < 2 ^ 64 = subst (λ n. n < 2 ^ 64) (sym now) fits in
    let good : IsSimulation (with_flight v whereabouts packet) = with_flight_is v whereabouts packet is can_v left in
    let same : ◌≡◌ {A = Simulation} (with_flight v whereabouts packet) (record v { flights = flights; next = next }) =
    at v serial next whereabouts packet flights now more after in
    subst IsSimulation same good
  where
    at : (v : Simulation) (serial next : ℕ) (whereabouts : Whereabouts) (packet : Packet) (flights : List Flight) → v.next ≡ serial
        → flights ≡ v.flights ++ record { serial = serial; whereabouts = whereabouts; packet = packet } ∷ [] → next ≡ serial + 1
        → ◌≡◌ {A = Simulation} (with_flight v whereabouts packet) (record v { flights = flights; next = next })
    at v serial next whereabouts packet flights now more after =
        let f : with_flight v whereabouts packet ≡ record v {
          flights = v.flights ++ record { serial = serial; whereabouts = whereabouts; packet = packet }
              ∷ [];
          next = serial + 1;
        } =
        ap (λ n. record v { flights = v.flights ++ record { serial = n; whereabouts = whereabouts; packet = packet } ∷ []; next = n + 1 }) now in
        f ∙ (ap (λ fs. record v { flights = fs; next = serial + 1 }) (sym more) ∙ ap (λ n. record v { flights = flights; next = n }) (sym after))

-- answered -----------------------------------------------------------------------------

pub waiting_at : (s : Simulation) (i : ℕ) (f : Flight) → IsSimulation s → slice_get s.flights i ≡ Some f → IsWaiting s f
waiting_at s i f is at = subst (IsWaiting s) (get_or_from_slice_get s.flights i f f at) (is.waiting i f (slice_get_within s.flights i f at))

-- the agent at a port, as it is read
pub agent_read : (agents : List Agent) (p : NodePort) (a : Agent) → has_cable_port agents p ≡ true → a ≡ get_or agents p.node a → slice_get agents p.node
    ≡ Some a
agent_read agents p a port read =
    let at = at_agent agents p port in
    at.there ∙ ap (λ x. Some x) (sym (read ∙ get_or_from_slice_get agents p.node at.agent a at.there))

-- what the agent at a port answers, and the agents after that
pub record Asks (v : Simulation) (flight : Flight) (request : List ℕ) (new : Agent) (answer : List ℕ) : Type 0 where
  pub agents : slice_set v.agents (port_of flight.whereabouts).node new
      ≡ with_changed v.agents (port_of flight.whereabouts).node (λ a. (after_answer a request (port_of flight.whereabouts).port).agent)
  pub told : answer ≡ answer_at v (port_of flight.whereabouts) request

pub asks : (v : Simulation) (flight : Flight) (request answer : List ℕ) (p : NodePort) (a new : Agent) → has_cable_port v.agents (port_of flight.whereabouts)
    ≡ true → p ≡ port_of flight.whereabouts
    → a ≡ get_or v.agents p.node a → new ≡ (after_answer a request p.port).agent → answer ≡ (after_answer a request p.port).packet
    → Asks v flight request new answer
asks v flight request answer p a new port same read after told =
    let q : NodePort = port_of flight.whereabouts in
    let there : slice_get v.agents q.node ≡ Some a = agent_read v.agents q a port (subst (λ r. a ≡ get_or v.agents r.node a) same read) in
    let change : Agent → Agent = λ a. (after_answer a request q.port).agent in
    record {
      agents = ap (slice_set v.agents q.node) (subst (λ r. new ≡ (after_answer a request r.port).agent) same after)
          ∙ sym (ap (λ m. option_map_or (λ a. slice_set v.agents q.node (change a)) m v.agents) there);
      told = subst (λ r. answer ≡ (after_answer a request r.port).packet) same told
          ∙ sym (ap (λ m. option_map_or (λ a. (after_answer a request q.port).packet) m request) there);
    }

pub asked_now : (v s : Simulation) → v ≡ s
    → (i serial next slid dlid : ℕ) (flight : Flight) (request answer : List ℕ) (node : ℕ) (new : Agent) (flights : List Flight) → IsSimulation v
    → slice_get s.flights i ≡ Some flight → node ≡ (port_of flight.whereabouts).node → Asks v flight request new answer → v.next ≡ serial
    → flights ≡ remove v.flights i ++ record {
      serial = serial;
      whereabouts = answer_whereabouts flight.whereabouts;
      packet =
          record { bytes = answer; slid = slid; dlid = dlid };
    } ∷ [] → next ≡ serial + 1
    → ◌≡◌ {A = Simulation} (record v { agents = slice_set v.agents node new; flights = flights; next = next }) (asked s flight request slid dlid)
asked_now v s e i serial next slid dlid flight request answer node new flights is at same done now more after =
    let there : slice_get v.flights i ≡ Some flight = subst (λ w. slice_get w.flights i ≡ Some flight) (sym e) at in
    let gone : without_flight v.flights flight.serial ≡ remove v.flights i = without_at v.flights i flight is.rising there in
    let whereabouts : Whereabouts = answer_whereabouts flight.whereabouts in
    let told : List ℕ = answer_at v (port_of flight.whereabouts) request in
    let agents : slice_set v.agents node new
    ≡ with_changed v.agents (port_of flight.whereabouts).node (λ a. (after_answer a request (port_of flight.whereabouts).port).agent) =
    subst (λ n. slice_set v.agents n new
    ≡ with_changed v.agents (port_of flight.whereabouts).node (λ a. (after_answer a request (port_of flight.whereabouts).port).agent)) (sym same) done.agents in
    let rest : flights ≡ without_flight v.flights flight.serial
    ++ record { serial = v.next; whereabouts = whereabouts; packet = record { bytes = told; slid = slid; dlid = dlid } } ∷ [] =
    more ∙ (ap (λ fs. fs ++ record { serial = serial; whereabouts = whereabouts; packet = record { bytes = answer; slid = slid; dlid = dlid } } ∷ []) (sym gone)
    ∙ (ap (λ b. without_flight v.flights flight.serial
    ++ record { serial = serial; whereabouts = whereabouts; packet = record { bytes = b; slid = slid; dlid = dlid } } ∷ []) done.told
    ∙ ap (λ n. without_flight v.flights flight.serial
    ++ record { serial = n; whereabouts = whereabouts; packet = record { bytes = told; slid = slid; dlid = dlid } } ∷ []) (sym now))) in
    let number : next ≡ v.next + 1 = after ∙ ap (λ n. n + 1) (sym now) in
    ap (λ x. record v { agents = x; flights = flights; next = next }) agents
    ∙ (ap (λ x. record v {
      agents =
          with_changed v.agents (port_of flight.whereabouts).node (λ a. (after_answer a request (port_of flight.whereabouts).port).agent);
      flights = x;
      next =
          next;
    }) rest
    ∙ (ap (λ x. record (asked v flight request slid dlid) { next = x }) number ∙ ap (λ w. asked w flight request slid dlid) e))

pub asked_valid : (v s : Simulation) → v ≡ s → (i slid dlid : ℕ) (flight : Flight) (request : List ℕ) (t : Simulation) → IsSimulation v → slice_get s.flights i
    ≡ Some flight
    → v.next < 2 ^ 64 → t ≡ asked s flight request slid dlid → IsSimulation t
asked_valid v s e i slid dlid flight request t is at left same =
    let is_s : IsSimulation s = subst IsSimulation e is in
    subst IsSimulation (sym same) (asked_is s flight request slid dlid is_s (waiting_at s i flight is_s at).whereabouts (subst (λ w. w.next < 2 ^ 64) e left))

-- both ends of a cable ---------------------------------------------------------------------

-- what a vector holds after its slice was written
pub written_back : {X : Type 0} (n : ℕ) (old new : List X) → n ≡ length old → length new ≡ length old → take n (new ++ drop (length new) old) ≡ new
written_back n old new count long = take_at new (drop (length new) old) n (long ∙ sym count)

-- where packets can wait ------------------------------------------------------------------

-- a seat is at a cable port
pub seat_waits : (s : Simulation) (p : NodePort) → IsSimulation s → is_seat_at s p ≡ true → CanWait s (Seat p)
seat_waits s p is seat = record { port = is.seats p seat; seat = λ h. seat }

-- what leaves by a port waits at the other end
pub leaving_waits : (s : Simulation) (out : NodePort) (packet : Packet) (whereabouts : Whereabouts) (moved : Packet) → IsSimulation s → leaving s out packet
    ≡ Moves whereabouts moved → CanWait s whereabouts
leaving_waits s out packet whereabouts moved is h = by (across s.peers out) refl h
  where
    by : (m : Option NodePort) → across s.peers out ≡ m → option_map_or (λ into. Moves (Arrived into) packet) m (Drops Down) ≡ Moves whereabouts moved
        → CanWait s whereabouts
    by None e h = cc
    by (Some into) e h =
        let same : Arrived into ≡ whereabouts = cc in
        subst (CanWait s) same (record { port = is.cables.ends into out (is.cables.lead_back out into e); seat = λ k. cc })

-- one agent changed ------------------------------------------------------------------------

-- the agents with the one that was read changed
pub changed_now : (v s : Simulation) → v ≡ s → (p : NodePort) (change : Agent → ℕ → Agent) (a new : Agent) → slice_get v.agents p.node ≡ Some a → new
    ≡ change a p.port
    → ◌≡◌ {A = Simulation} (record v { agents = slice_set v.agents p.node new }) (changed_at s p change)
changed_now v s e p change a new there after =
    ap (λ x. record v { agents = slice_set v.agents p.node x }) after
    ∙ (ap (λ xs. record v { agents = xs }) (sym (ap (λ m. option_map_or (λ b. slice_set v.agents p.node (change b p.port)) m v.agents) there))
    ∙ ap (λ w. changed_at w p change) e)

-- the port at the other end of a cable is a cable port
pub other_is : (s : Simulation) (p : NodePort) (m : Option NodePort) → IsSimulation s → m ≡ across s.peers p
    → IfSome m (λ other. has_cable_port s.agents other ≡ true)
other_is s p None is e = tt
other_is s p (Some other) is e = is.cables.ends other p (is.cables.lead_back p other (sym e))

-- a port with a cable is a cable port
pub cabled_is : (s : Simulation) (p : NodePort) → IsSimulation s → is_some (across s.peers p) ≡ true → has_cable_port s.agents p ≡ true
cabled_is s p is h = by (across s.peers p) refl h
  where
    by : (m : Option NodePort) → across s.peers p ≡ m → is_some m ≡ true → has_cable_port s.agents p ≡ true
    by None e k = cc
    by (Some other) e k = is.cables.ends p other e

-- after the first end was written -----------------------------------------------------------

-- a cable port is one still
pub port_then : (agents first now : List Agent) (n : ℕ) (p q : NodePort) (b : Bool) → length agents ≡ n → first
    ≡ with_changed agents p.node (λ a. after_set_wired a p.port b)
    → now ≡ take n (first ++ drop (length first) agents) → has_cable_port agents q ≡ true → has_cable_port now q ≡ true
port_then agents first now n p q b count wrote back port =
    let long : length first ≡ length agents = ap length wrote ∙ length-changed agents p.node (λ a. after_set_wired a p.port b) in
    let same : now ≡ with_changed agents p.node (λ a. after_set_wired a p.port b) = back ∙ (written_back n agents first (sym count) long ∙ wrote) in
    subst (λ xs. has_cable_port xs q ≡ true) (sym same) (cable_ports_stay agents (wired_at agents p b) (keeps_wired agents p b) q ∙ port)

-- and there is a slot for its other end still
pub slot_then : (peers first now : List (List (Option NodePort))) (n : ℕ) (p q : NodePort) (other : Option NodePort) → length peers ≡ n → first
    ≡ with_peer peers p other
    → now ≡ take n (first ++ drop (length first) peers) → HasPeerSlot peers q → HasPeerSlot now q
slot_then peers first now n p q other count wrote back slot =
    let long : length first ≡ length peers = ap length wrote ∙ length-with_peer peers p other in
    let same : now ≡ with_peer peers p other = back ∙ (written_back n peers first (sym count) long ∙ wrote) in
    subst (λ xs. HasPeerSlot xs q) (sym same) (has_slot_after peers p q other slot)

-- a serial number is left
pub is_left : (v s : Simulation) (serial : ℕ) → v ≡ s → v.next ≡ serial → serial < 2 ^ 64 → (s.next == 2 ^ 64) ≡ false
is_left v s serial e now fits = ne_eqb _ _ (λ h. differ s.next serial (sym (ap (λ w. w.next) e) ∙ now) fits h)
  where
    differ : (n serial : ℕ) → n ≡ serial → serial < 2 ^ 64 → n ≡ 2 ^ 64 → ⊥
    differ n serial now fits e = omega arith
