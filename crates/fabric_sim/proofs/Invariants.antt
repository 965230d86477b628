-- What holds of each simulation holds after each call.
use Rattle.std.proofs.Common.{◌≡◌, ◌≢◌, ℕ, ◌+◌, ◌^◌, ◌<◌, ◌≤◌, inl, inr, Bool, true, false, not, List, [], ◌∷◌, length, get_or, refl, arith, ap, sym, ◌∙◌, subst}
use Rattle.std.specs.Prelude.{Option, Some, None, option_map, All, map, slice_get, slice_set, if◌then◌else◌}
use Rattle.std.specs.Option.{option_map_or}
use Rattle.std.proofs.lemmas.Bool.{eqb-true, cases_eq}
use Rattle.std.proofs.lemmas.Option.{slice_get-map}
use Rattle.std.proofs.lemmas.List.Elements.{All-filter, All-push, All-weaker, All-head, All-tail, All-cons}
use Rattle.std.proofs.lemmas.List.Kept.{AllPairs-cons, AllPairs-filter}
use Rattle.std.proofs.lemmas.List.Quantifiers.{all_pairs_push}
use Rattle.fabric_model.specs.declared.cable.NodePort.{NodePort}
use Rattle.node_agents.specs.Agent.{Agent, IsAgent, has_seat, is_switch, node_of, after_set_seat}
use Rattle.node_agents.specs.Answers.{after_answer}
use Rattle.node_agents.proofs.Made.{agents_are_made}
use Rattle.node_agents.proofs.Shapes.{answered_keeps_shape, answered_is_agent}
use Rattle.fabric_model.specs.Fabric.{is_switch_at}
use Rattle.smp_bytes.specs.NodeType as types
use Rattle.fabric_sim.specs.declared.flight.Whereabouts.{Whereabouts}
use Rattle.fabric_sim.specs.declared.flight.Whereabouts.TheVariants.{Seat, Arrived, Made}
use Rattle.fabric_sim.specs.declared.flight.Flight.{Flight}
use Rattle.fabric_sim.specs.declared.packet.Packet.{Packet}
use Rattle.fabric_sim.specs.Simulation.{Simulation, IsSimulation, AreUncabledDown, CanWait, IsWaiting}
use Rattle.fabric_sim.specs.Flights.{AreRising, is_numbered, with_moved}
use Rattle.fabric_sim.specs.Simulation.{agent_at, across, has_cable_port, fabric_of, port_of, answer_whereabouts}
use Rattle.fabric_sim.specs.Traps.{Traps}
use Rattle.fabric_sim.specs.Delivery.{with_changed, with_flight, without, moved_to, asked}
use Rattle.fabric_sim.specs.Changes.{changed_at}
use Rattle.fabric_sim.proofs.AgentLists.{AllRelated, KeepsSeats, KeepsDown, before, cable_ports_stay, seats_stay, Related, keeps_down_same, keeps_down_from_shape, length-changed, all_changed, related_changed, NoNewSeats, no_new_seats_same, seats_before, changed_at_id, others_stay}
use Rattle.fabric_sim.proofs.PortChanges.{keeps_down-seated, seat-seated_other}
use Rattle.fabric_sim.proofs.PeerLists.{same_or_apart, ports_differ}
use Rattle.fabric_sim.proofs.Serials.{rising-head, rising-tail}

-- where agents change ---------------------------------------------------------------------

-- a packet can wait where it could
pub can_wait_after : (s t : Simulation) (whereabouts : Whereabouts) → AllRelated KeepsSeats s.agents t.agents → CanWait s whereabouts → CanWait t whereabouts
can_wait_after s t whereabouts keeps can =
    record {
      port = cable_ports_stay s.agents t.agents keeps _ ∙ can.port;
      seat = λ h. seats_stay s.agents t.agents keeps _ (can.seat h);
    }

waiting-after : (s t : Simulation) → AllRelated KeepsSeats s.agents t.agents → t.flights ≡ s.flights → t.next ≡ s.next → All (IsWaiting s) s.flights
    → All (IsWaiting t) t.flights
waiting-after s t keeps same next waiting =
    subst (All (IsWaiting t)) (sym same)
    (All-weaker (IsWaiting s) (IsWaiting t) (λ f w. record {
      whereabouts = can_wait_after s t f.whereabouts keeps w.whereabouts;
      given =
          subst (λ n. f.serial < n) (sym next) w.given;
    }) s.flights waiting)

-- with other agents and other cables, whose ends stand in the same ports
pub recabled : (s : Simulation) (agents : List Agent) (peers : List (List (Option NodePort))) → IsSimulation s
    → length agents ≡ length s.agents → All IsAgent agents → AllRelated KeepsSeats s.agents agents
    → ((p : NodePort) → option_map_or (λ a. has_seat a p.port) (slice_get agents p.node) false ≡ true → has_cable_port s.agents p ≡ true)
    → length peers ≡ length s.peers → ((id : ℕ) → length (get_or peers id []) ≡ length (get_or s.peers id []))
    → ((p q : NodePort) → across peers p ≡ Some q → has_cable_port s.agents p ≡ true)
    → ((p q : NodePort) → across peers p ≡ Some q → across peers q ≡ Some p)
    → AreUncabledDown (record s { agents = agents; peers = peers })
    → IsSimulation (record s { agents = agents; peers = peers })
recabled s agents peers is count all keeps sits lists rows ends back down =
    let t : Simulation = record s { agents = agents; peers = peers } in
    record {
      few = subst (λ n. n ≤ 1024) (sym count) is.few;
      agents = all;
      seats = λ p h. cable_ports_stay s.agents agents keeps p ∙ sits p h;
      cables = record {
        lists = lists ∙ (is.cables.lists ∙ sym count);
        fit = λ id b e. let old = before KeepsSeats s.agents agents keeps id b e in
            rows id ∙ (is.cables.fit id old.agent old.there ∙ ap (λ n. n.ports + 1) (sym old.related.node));
        ends = λ p q e. cable_ports_stay s.agents agents keeps p ∙ ends p q e;
        lead_back = back;
        down = down;
      };
      waiting = waiting-after s t keeps refl refl is.waiting;
      rising = is.rising;
      next = is.next;
    }

seats-of : (xs ys : List Agent) → AllRelated KeepsDown xs ys → AllRelated KeepsSeats xs ys
seats-of xs ys keeps id = by (slice_get xs id) (slice_get ys id) (keeps id)
  where
    by : (m n : Option Agent) → Related KeepsDown m n → Related KeepsSeats m n
    by None None h = tt
    by None (Some b) h = h
    by (Some a) None h = h
    by (Some a) (Some b) h = h.seats

-- with other agents, of which the same ports are down
pub with_agents : (s : Simulation) (agents : List Agent) → IsSimulation s → length agents ≡ length s.agents → All IsAgent agents
    → AllRelated KeepsDown s.agents agents
    → ((p : NodePort) → option_map_or (λ a. has_seat a p.port) (slice_get agents p.node) false ≡ true → has_cable_port s.agents p ≡ true)
    → IsSimulation (record s { agents = agents })
with_agents s agents is count all keeps sits =
    recabled s agents s.peers is count all (seats-of s.agents agents keeps) sits refl (λ id. refl) is.cables.ends is.cables.lead_back
    (λ p b e port.
    let old = before KeepsDown s.agents agents keeps p.node b e in
    let there : has_cable_port s.agents p ≡ true = sym (cable_ports_stay s.agents agents (seats-of s.agents agents keeps) p) ∙ port in
    let down = is.cables.down p old.agent old.there there in
    (λ h. down.0 (old.related.to p.port h), λ h. old.related.from p.port (down.1 h)))

-- where traps change -----------------------------------------------------------------------

pub with_traps_is : (s : Simulation) (traps : Traps) → IsSimulation s → IsSimulation (record s { traps = traps })
with_traps_is s traps is =
    let t : Simulation = record s { traps = traps } in
    record {
      few = is.few;
      agents = is.agents;
      seats = is.seats;
      cables = record { lists = is.cables.lists; fit = is.cables.fit; ends = is.cables.ends; lead_back = is.cables.lead_back; down = is.cables.down };
      waiting = All-weaker (IsWaiting s) (IsWaiting t) (λ f w. record {
        whereabouts = record { port = w.whereabouts.port; seat = w.whereabouts.seat };
        given =
            w.given;
      }) s.flights is.waiting;
      rising = is.rising;
      next = is.next;
    }

-- where packets change ---------------------------------------------------------------------

-- one packet more
pub with_flight_is : (s : Simulation) (whereabouts : Whereabouts) (packet : Packet) → IsSimulation s → CanWait s whereabouts → s.next < 2 ^ 64
    → IsSimulation (with_flight s whereabouts packet)
with_flight_is s whereabouts packet is can left =
    let flight : Flight = record { serial = s.next; whereabouts = whereabouts; packet = packet } in
    let t : Simulation = with_flight s whereabouts packet in
    record {
      few = is.few;
      agents = is.agents;
      seats = is.seats;
      cables = record { lists = is.cables.lists; fit = is.cables.fit; ends = is.cables.ends; lead_back = is.cables.lead_back; down = is.cables.down };
      waiting = All-push (IsWaiting t) s.flights flight
          (All-weaker (IsWaiting s) (IsWaiting t) (λ f w. record {
            whereabouts = record { port = w.whereabouts.port; seat = w.whereabouts.seat };
            given =
                let g = w.given in omega arith;
          }) s.flights is.waiting)
          (record { whereabouts = record { port = can.port; seat = can.seat }; given = omega arith });
      rising = all_pairs_push (λ x y. x.serial < y.serial) s.flights flight is.rising (λ k d h. (is.waiting k d h).given);
      next = omega arith;
    }

-- without some of them
pub without_is : (s : Simulation) (serial : ℕ) → IsSimulation s → IsSimulation (without s serial)
without_is s serial is =
    let t : Simulation = without s serial in
    record {
      few = is.few;
      agents = is.agents;
      seats = is.seats;
      cables = record { lists = is.cables.lists; fit = is.cables.fit; ends = is.cables.ends; lead_back = is.cables.lead_back; down = is.cables.down };
      waiting = All-filter (λ f. not (is_numbered serial f)) (IsWaiting t) s.flights
          (All-weaker (IsWaiting s) (IsWaiting t) (λ f w. record {
            whereabouts = record { port = w.whereabouts.port; seat = w.whereabouts.seat };
            given =
                w.given;
          }) s.flights is.waiting);
      rising = AllPairs-filter (λ x y. x.serial < y.serial) (λ f. not (is_numbered serial f)) s.flights is.rising;
      next = is.next;
    }

-- the packet at other whereabouts

moved-serial : (new f : Flight) → (if is_numbered new.serial f then new else f).serial ≡ f.serial
moved-serial new f = by (is_numbered new.serial f) refl
  where
    by : (b : Bool) → is_numbered new.serial f ≡ b → (if b then new else f).serial ≡ f.serial
    by true e = sym (eqb-true _ _ e)
    by false e = refl

waiting-moved : (s : Simulation) (new : Flight) (fs : List Flight) → CanWait s new.whereabouts → All (IsWaiting s) fs → All (IsWaiting s) (with_moved fs new)
waiting-moved s new [] can all = all
waiting-moved s new (f ∷ fs) can all =
    All-cons (IsWaiting s) _ _ (by (is_numbered new.serial f) refl) (waiting-moved s new fs can (All-tail (IsWaiting s) f fs all))
  where
    old : IsWaiting s f
    old = All-head (IsWaiting s) f fs all

    by : (b : Bool) → is_numbered new.serial f ≡ b → IsWaiting s (if b then new else f)
    by true e = let same : f.serial ≡ new.serial = eqb-true _ _ e in record { whereabouts = can; given = subst (λ n. n < s.next) same old.given }
    by false e = old

above-moved : (serial : ℕ) (new : Flight) (fs : List Flight) → All (λ f. serial < f.serial) fs → All (λ f. serial < f.serial) (with_moved fs new)
above-moved serial new [] all = all
above-moved serial new (f ∷ fs) all =
    All-cons (λ g. serial < g.serial) _ _
    (subst (λ n. serial < n) (sym (moved-serial new f)) (All-head (λ g. serial < g.serial) f fs all))
    (above-moved serial new fs (All-tail (λ g. serial < g.serial) f fs all))

rising-moved : (new : Flight) (fs : List Flight) → AreRising fs → AreRising (with_moved fs new)
rising-moved new [] rising = rising
rising-moved new (f ∷ fs) rising =
    let R : Flight → Flight → Type 0 = λ x y. x.serial < y.serial in
    AllPairs-cons R _ _
    (subst (λ n. All (λ g. n < g.serial) (with_moved fs new)) (sym (moved-serial new f)) (above-moved f.serial new fs (rising-head f fs rising)))
    (rising-moved new fs (rising-tail f fs rising))

pub moved_to_is : (s : Simulation) (serial : ℕ) (whereabouts : Whereabouts) (packet : Packet) → IsSimulation s → CanWait s whereabouts
    → IsSimulation (moved_to s serial whereabouts packet)
moved_to_is s serial whereabouts packet is can =
    let new : Flight = record { serial = serial; whereabouts = whereabouts; packet = packet } in
    let t : Simulation = moved_to s serial whereabouts packet in
    record {
      few = is.few;
      agents = is.agents;
      seats = is.seats;
      cables = record { lists = is.cables.lists; fit = is.cables.fit; ends = is.cables.ends; lead_back = is.cables.lead_back; down = is.cables.down };
      waiting = All-weaker (IsWaiting s) (IsWaiting t) (λ f w. record {
        whereabouts = record { port = w.whereabouts.port; seat = w.whereabouts.seat };
        given =
            w.given;
      }) (with_moved s.flights new)
          (waiting-moved s new s.flights can is.waiting);
      rising = rising-moved new s.flights is.rising;
      next = is.next;
    }

-- an answer can wait where its request did
answer-can-wait : (s : Simulation) (whereabouts : Whereabouts) → CanWait s whereabouts → CanWait s (answer_whereabouts whereabouts)
answer-can-wait s (Seat p) can = can
answer-can-wait s (Arrived p) can = record { port = can.port; seat = λ h. cc }
answer-can-wait s (Made p) can = record { port = can.port; seat = λ h. cc }

-- a node that is no switch has an agent of an adapter
pub adapter_at : (s : Simulation) (id : ℕ) (a : Agent) → agent_at s id ≡ Some a → is_switch_at (fabric_of s) id ≡ false → is_switch a ≡ false
adapter_at s id a e h =
    let node : slice_get (map node_of s.agents) id ≡ Some (node_of a) = slice_get-map node_of s.agents id ∙ ap (option_map node_of) e in
    sym (ap (λ m. option_map_or (λ node. types.is_switch node.kind) m false) node) ∙ h

-- the calls ----------------------------------------------------------------------------

-- a request is answered
pub asked_is : (s : Simulation) (flight : Flight) (request : List ℕ) (slid dlid : ℕ) → IsSimulation s → CanWait s flight.whereabouts → s.next < 2 ^ 64
    → IsSimulation (asked s flight request slid dlid)
asked_is s flight request slid dlid is can left =
    let p : NodePort = port_of flight.whereabouts in
    let change : Agent → Agent = λ a. (after_answer a request p.port).agent in
    let agents : List Agent = with_changed s.agents p.node change in
    let keeps : AllRelated KeepsDown s.agents agents = related_changed KeepsDown keeps_down_same s.agents p.node change
    (λ a e. keeps_down_from_shape a (change a) (answered_keeps_shape a request p.port)) in
    let gone : Simulation = without s flight.serial in
    let told : Simulation = record gone { agents = agents } in
    let told_is : IsSimulation told = with_agents gone agents (without_is s flight.serial is) (length-changed s.agents p.node change)
    (all_changed IsAgent s.agents p.node change is.agents (λ a e h. answered_is_agent a request p.port h)) keeps
    (λ q h. is.seats q (seats_before s.agents agents (related_changed NoNewSeats no_new_seats_same s.agents p.node change
    (λ a e. record { seats = λ port k. sym ((answered_keeps_shape a request p.port).seats port) ∙ k })) q h)) in
    with_flight_is told (answer_whereabouts flight.whereabouts) _ told_is
    (can_wait_after s told (answer_whereabouts flight.whereabouts) (seats-of s.agents agents keeps) (answer-can-wait s flight.whereabouts can)) left

-- who sits at another port than one that is taken
seat-before : (agents : List Agent) (p q : NodePort) → p ≢ q
    → option_map_or (λ a. has_seat a q.port) (slice_get (with_changed agents p.node (λ a. after_set_seat a p.port)) q.node) false ≡ true
    → option_map_or (λ a. has_seat a q.port) (slice_get agents q.node) false ≡ true
seat-before agents p q ne h =
    elim (cases_eq p.node q.node) [
      | inr n ↦ sym (ap (λ m. option_map_or (λ a. has_seat a q.port) m false) (others_stay agents p.node q.node (λ a. after_set_seat a p.port) n)) ∙ h
      | inl n ↦ subst (λ k. option_map_or (λ a. has_seat a q.port) (slice_get agents k) false ≡ true) n
          (by n (slice_get agents p.node) refl
          (subst (λ k. option_map_or (λ a. has_seat a q.port) (slice_get (with_changed agents p.node (λ a. after_set_seat a p.port)) k) false
          ≡ true) (sym n) h))
    ]
  where
    by : p.node ≡ q.node → (m : Option Agent) → slice_get agents p.node ≡ m
        → option_map_or (λ a. has_seat a q.port) (slice_get (with_changed agents p.node (λ a. after_set_seat a p.port)) p.node) false ≡ true
        → option_map_or (λ a. has_seat a q.port) (slice_get agents p.node) false ≡ true
    by n None e k =
        let unchanged : with_changed agents p.node (λ a. after_set_seat a p.port) ≡ agents =
        ap (λ m. option_map_or (λ a. slice_set agents p.node (after_set_seat a p.port)) m agents) e in
        sym (ap (λ xs. option_map_or (λ a. has_seat a q.port) (slice_get xs p.node) false) unchanged) ∙ k
    by n (Some a) e k =
        let now : has_seat (after_set_seat a p.port) q.port ≡ true =
        sym (ap (λ m. option_map_or (λ a. has_seat a q.port) m false) (changed_at_id agents p.node a (λ a. after_set_seat a p.port) e)) ∙ k in
        ap (λ m. option_map_or (λ a. has_seat a q.port) m false) e ∙ (sym (seat-seated_other a p.port q.port (λ m. ports_differ p q ne n (sym m))) ∙ now)

-- a manager sits at a port of an adapter
pub seated_is : (s : Simulation) (p : NodePort) → IsSimulation s → has_cable_port s.agents p ≡ true → is_switch_at (fabric_of s) p.node ≡ false
    → IsSimulation (changed_at s p after_set_seat)
seated_is s p is port adapter =
    let change : Agent → Agent = λ a. after_set_seat a p.port in
    with_agents s (with_changed s.agents p.node change) is (length-changed s.agents p.node change)
    (all_changed IsAgent s.agents p.node change is.agents (λ a e h. agents_are_made.seated a p.port h (adapter_at s p.node a e adapter)))
    (related_changed KeepsDown keeps_down_same s.agents p.node change (λ a e. keeps_down-seated a p.port))
    (λ q h.
    elim (same_or_apart p q) [
      | inl e ↦ subst (λ r. has_cable_port s.agents r ≡ true) e port
      | inr ne ↦ is.seats q (seat-before s.agents p q ne h)
    ])
