-- Calls that change no cable keep the nodes, the cables, and each packet that they do not name.
use Rattle.std.proofs.Common.{◌≡◌, ℕ, ◌^◌, ◌<◌, Bool, true, false, cond, List, [], ◌∷◌, not, ◌==◌, refl, sym, ap, ◌∙◌, arith, ◌||◌}
use Rattle.std.proofs.lemmas.Bool.{eqb-false}
use Rattle.std.specs.Prelude.{Option, Some, None, slice_get, is_none, Ok}
use Rattle.std.specs.Option.{option_map_or}
use Rattle.fabric_model.specs.declared.cable.NodePort.{NodePort}
use Rattle.smp_bytes.specs.NodeType.{is_switch as is_switch_type}
use Rattle.fabric_model.specs.Fabric.{is_switch_at}
use Rattle.node_agents.specs.declared.agent_node.AgentNode.{AgentNode}
use Rattle.node_agents.specs.Agent.{Agent, IsAgent, is_switch, after_set_seat}
use Rattle.node_agents.specs.Answers.{after_answer}
use Rattle.fabric_sim.specs.declared.packet.Packet.{Packet}
use Rattle.fabric_sim.specs.declared.flight.Whereabouts.{Whereabouts}
use Rattle.fabric_sim.specs.declared.flight.Flight.{Flight}
use Rattle.fabric_sim.specs.PacketOutcome.{Outcome, Moves, Asks, HandsUp, Represses, Drops}
use Rattle.fabric_sim.specs.declared.flight.Whereabouts.TheVariants.{Made, Seat as AtSeat}
use Rattle.fabric_sim.specs.declared.fabric_fault.FabricFault.TheVariants.{NoSuchPacket, NoSuchPort, PortTaken, SerialsSpent}
use Rattle.fabric_sim.specs.declared.delivered.Delivered.TheVariants.{Answered}
use Rattle.fabric_sim.specs.Simulation.{Simulation, is_cable_port, is_seat_at, fabric_of, port_of, answer_whereabouts}
use Rattle.fabric_sim.specs.Flights.{flight_with, without_flight}
use Rattle.fabric_sim.specs.Called.{refused}
use Rattle.fabric_sim.specs.Delivery.{with_changed, with_flight, without, asked, answer_at, after_enqueue, after_outcome, delivered_flight, after_deliver}
use Rattle.fabric_sim.specs.PacketOutcome.{outcome_of}
use Rattle.fabric_sim.specs.Changes.{addressed, after_emit, after_inject, copied, after_repeat, after_lose, after_seat}
use Rattle.fabric_sim.specs.Calls.{Call, Inject, Deliver, Lose, Repeat, Seat, after_call, after_calls, is_delivery_of}
use Rattle.fabric_sim.specs.ThereAndBack.{KeepsPacket}
use Rattle.fabric_sim.proofs.TripFlights.{AreGiven, found_before, found_without, found_beside_moved, found_given, given_one_more, given_without, given_moved}
use Rattle.fabric_sim.proofs.TripShapes.{IsAlong, nodes_changed, agents_changed, read_of_node, switch_by_node}

-- what an agent keeps when it answers, and when a manager comes to sit at a port
pub record KeepAgents : Type 0 where
  pub answered_node : (a : Agent) (packet : List ℕ) (arrival : ℕ) → (after_answer a packet arrival).agent.node ≡ a.node
  pub answered_is : (a : Agent) (packet : List ℕ) (arrival : ℕ) → IsAgent a → IsAgent (after_answer a packet arrival).agent
  pub seated_is : (a : Agent) (port : ℕ) → IsAgent a → is_switch a ≡ false → IsAgent (after_set_seat a port)

-- what a call leaves: all is as before, and the packet of a number where it was
pub record Leaves (start : Simulation) (n : ℕ) (f : Flight) (s : Simulation) : Type 0 where
  pub along : IsAlong start s
  pub there : flight_with s.flights n ≡ Some f

module _ (keep : KeepAgents) {start : Simulation} where
  -- fabrics after a change ----------------------------------------------------------------

  one_more : (s : Simulation) (whereabouts : Whereabouts) (packet : Packet) → IsAlong start s → IsAlong start (with_flight s whereabouts packet)
  one_more s whereabouts packet along =
      record {
        nodes = along.nodes;
        peers = along.peers;
        agents = along.agents;
        given = given_one_more s.flights (record { serial = s.next; whereabouts = whereabouts; packet = packet }) along.given;
        next = omega (arith, along.next);
      }

  one_less : (s : Simulation) (gone : ℕ) → IsAlong start s → IsAlong start (without s gone)
  one_less s gone along =
      record { nodes = along.nodes; peers = along.peers; agents = along.agents; given = given_without s.flights gone s.next along.given; next = along.next }

  pub along_asked : (s : Simulation) (flight : Flight) (request : List ℕ) (slid dlid : ℕ) → IsAlong start s → IsAlong start (asked s flight request slid dlid)
  along_asked s flight request slid dlid along =
      let p = port_of flight.whereabouts in
      let told : Simulation =
      record (without s flight.serial) { agents = with_changed s.agents p.node (λ a. (after_answer a request p.port).agent) } in
      one_more told (answer_whereabouts flight.whereabouts) (record { bytes = answer_at s p request; slid = slid; dlid = dlid })
      (record {
        nodes = nodes_changed s.agents p.node (λ a. (after_answer a request p.port).agent) (λ a. keep.answered_node a request p.port) ∙ along.nodes;
        peers = along.peers;
        agents = agents_changed s.agents p.node (λ a. (after_answer a request p.port).agent) along.agents (λ a there is. keep.answered_is a request p.port is);
        given = given_without s.flights flight.serial s.next along.given;
        next = along.next;
      })

  pub along_brought : (s : Simulation) (flight : Flight) (o : Outcome) → flight.serial < s.next → IsAlong start s
      → IsAlong start (after_outcome s flight o).fabric
  along_brought s flight (Moves whereabouts packet) given along =
      record {
        nodes = along.nodes;
        peers = along.peers;
        agents = along.agents;
        given = given_moved s.flights (record { serial = flight.serial; whereabouts = whereabouts; packet = packet }) s.next given along.given;
        next = along.next;
      }
  along_brought s flight (Asks request slid dlid) given along = by_serial (s.next == 2 ^ 64)
    where
      by_serial : (b : Bool)
          → IsAlong start (cond b (refused s SerialsSpent) (record { fabric = asked s flight request slid dlid; result = Ok (Answered s.next) })).fabric
      by_serial true = along
      by_serial false = along_asked s flight request slid dlid along
  along_brought s flight (HandsUp packet) given along = one_less s flight.serial along
  along_brought s flight (Represses number) given along =
      let gone = one_less s flight.serial along in
      record { nodes = gone.nodes; peers = gone.peers; agents = gone.agents; given = gone.given; next = gone.next }
  along_brought s flight (Drops reason) given along = one_less s flight.serial along

  along_launched : (s : Simulation) (whereabouts : Whereabouts) (packet : Packet) → IsAlong start s → IsAlong start (after_enqueue s whereabouts packet).fabric
  along_launched s whereabouts packet along = by_serial (s.next == 2 ^ 64)
    where
      by_serial : (b : Bool) → IsAlong start (cond b (refused s SerialsSpent) (record { fabric = with_flight s whereabouts packet; result = Ok s.next })).fabric
      by_serial true = along
      by_serial false = one_more s whereabouts packet along

  along_delivered : (s : Simulation) (serial : ℕ) → IsAlong start s → IsAlong start (after_deliver s serial).fabric
  unfolding after_deliver
  along_delivered s serial along = by_flight (flight_with s.flights serial) refl
    where
      by_flight : (o : Option Flight) → flight_with s.flights serial ≡ o → IsAlong start (delivered_flight s o).fabric
      by_flight None e = along
      by_flight (Some flight) e =
          let (same, given) = found_given s.flights serial s.next flight along.given e in
          along_brought s flight (outcome_of s flight.whereabouts flight.packet) (omega (arith, same, given)) along

  along_seated : (s : Simulation) (p : NodePort) → IsAlong start s → IsAlong start (after_seat s p).fabric
  unfolding after_seat
  along_seated s p along = by_port (is_switch_at (fabric_of s) p.node) refl (not (is_cable_port s p)) (is_seat_at s p)
    where
      changed : Simulation
      changed = record s { agents = with_changed s.agents p.node (λ a. after_set_seat a p.port) }

      no_switch : (a : Agent) → is_switch_at (fabric_of s) p.node ≡ false → slice_get s.agents p.node ≡ Some a → is_switch a ≡ false
      no_switch a e there =
          sym (switch_by_node s.agents p.node
          ∙ sym (read_of_node (λ (n : AgentNode). is_switch_type n.kind) false s.agents p.node)
          ∙ ap (λ o. option_map_or (λ (x : Agent). is_switch_type x.node.kind) o false) there)
          ∙ e

      seat : is_switch_at (fabric_of s) p.node ≡ false → IsAlong start changed
      seat e =
          record {
            nodes = nodes_changed s.agents p.node (λ a. after_set_seat a p.port) (λ a. refl) ∙ along.nodes;
            peers = along.peers;
            agents = agents_changed s.agents p.node (λ a. after_set_seat a p.port) along.agents
                (λ a there is. keep.seated_is a p.port is (no_switch a e there));
            given = along.given;
            next = along.next;
          }

      by_port : (b : Bool) → is_switch_at (fabric_of s) p.node ≡ b → (c d : Bool)
          → IsAlong start (cond (b || c) (refused {R = Unit {0}} s NoSuchPort)
          (cond d (refused s PortTaken) (record { fabric = changed; result = Ok tt }))).fabric
      by_port true e c d = along
      by_port false e true d = along
      by_port false e false true = along
      by_port false e false false = seat e

  pub along_call : (s : Simulation) (call : Call) → IsAlong start s → IsAlong start (after_call s call)
  unfolding after_inject after_repeat after_lose
  along_call s (Inject from packet) along = by_seat (not (is_seat_at s from))
    where
      by_seat : (b : Bool) → IsAlong start (cond b (refused s NoSuchPort) (after_enqueue s (AtSeat from) (addressed s from packet))).fabric
      by_seat true = along
      by_seat false = along_launched s (AtSeat from) (addressed s from packet) along
  along_call s (Deliver serial) along = along_delivered s serial along
  along_call s (Lose serial) along = by_flight (is_none (flight_with s.flights serial))
    where
      by_flight : (b : Bool) → IsAlong start (cond b (refused {R = Unit {0}} s NoSuchPacket) (record { fabric = without s serial; result = Ok tt })).fabric
      by_flight true = along
      by_flight false = one_less s serial along
  along_call s (Repeat serial) along = by_flight (flight_with s.flights serial)
    where
      by_flight : (o : Option Flight) → IsAlong start (copied s o).fabric
      by_flight None = along
      by_flight (Some flight) = along_launched s flight.whereabouts flight.packet along
  along_call s (Seat at) along = along_seated s at along

  pub along_emitted : (s : Simulation) (p : NodePort) (packet : Packet) → IsAlong start s → IsAlong start (after_emit s p packet).fabric
  unfolding after_emit
  along_emitted s p packet along = by_port (not (is_cable_port s p))
    where
      by_port : (b : Bool) → IsAlong start (cond b (refused s NoSuchPort) (after_enqueue s (Made p) packet)).fabric
      by_port true = along
      by_port false = along_launched s (Made p) packet along

  pub along_calls : (calls : List Call) (s : Simulation) → IsAlong start s → IsAlong start (after_calls calls s)
  along_calls [] s along = along
  along_calls (call ∷ calls) s along = along_calls calls (after_call s call) (along_call s call along)

-- a packet that the call is not for --------------------------------------------------------

module _ (n : ℕ) (f : Flight) where
  kept_launched : (s : Simulation) (whereabouts : Whereabouts) (packet : Packet) → flight_with s.flights n ≡ Some f
      → flight_with (after_enqueue s whereabouts packet).fabric.flights n ≡ Some f
  kept_launched s whereabouts packet there = by_serial (s.next == 2 ^ 64)
    where
      by_serial : (b : Bool)
          → flight_with (cond b (refused s SerialsSpent) (record { fabric = with_flight s whereabouts packet; result = Ok s.next })).fabric.flights n ≡ Some f
      by_serial true = there
      by_serial false = found_before s.flights (record { serial = s.next; whereabouts = whereabouts; packet = packet }) n f there

  kept_brought : (s : Simulation) (flight : Flight) (o : Outcome) → (flight.serial ≡ n → ⊥) → flight_with s.flights n ≡ Some f
      → flight_with (after_outcome s flight o).fabric.flights n ≡ Some f
  kept_brought s flight (Moves whereabouts packet) apart there =
      found_beside_moved s.flights (record { serial = flight.serial; whereabouts = whereabouts; packet = packet }) n apart ∙ there
  kept_brought s flight (Asks request slid dlid) apart there = by_serial (s.next == 2 ^ 64)
    where
      by_serial : (b : Bool)
          → flight_with (cond b (refused s SerialsSpent)
          (record { fabric = asked s flight request slid dlid; result = Ok (Answered s.next) })).fabric.flights n ≡ Some f
      by_serial true = there
      by_serial false =
          found_before (without_flight s.flights flight.serial)
          (record {
            serial = s.next;
            whereabouts = answer_whereabouts flight.whereabouts;
            packet = record { bytes = answer_at s (port_of flight.whereabouts) request; slid = slid; dlid = dlid };
          })
          n f (found_without s.flights flight.serial n apart ∙ there)
  kept_brought s flight (HandsUp packet) apart there = found_without s.flights flight.serial n apart ∙ there
  kept_brought s flight (Represses number) apart there = found_without s.flights flight.serial n apart ∙ there
  kept_brought s flight (Drops reason) apart there = found_without s.flights flight.serial n apart ∙ there

  pub kept_call : (s : Simulation) (call : Call) → AreGiven s.next s.flights → KeepsPacket n call → is_delivery_of n call ≡ false
      → flight_with s.flights n ≡ Some f
      → flight_with (after_call s call).flights n ≡ Some f
  unfolding after_inject after_deliver after_repeat after_lose after_seat
  kept_call s (Inject from packet) given keeps other there = by_seat (not (is_seat_at s from))
    where
      by_seat : (b : Bool) → flight_with (cond b (refused s NoSuchPort) (after_enqueue s (AtSeat from) (addressed s from packet))).fabric.flights n ≡ Some f
      by_seat true = there
      by_seat false = kept_launched s (AtSeat from) (addressed s from packet) there
  kept_call s (Deliver serial) given keeps other there = by_flight (flight_with s.flights serial) refl
    where
      by_flight : (o : Option Flight) → flight_with s.flights serial ≡ o → flight_with (delivered_flight s o).fabric.flights n ≡ Some f
      by_flight None e = there
      by_flight (Some flight) e =
          let same = (found_given s.flights serial s.next flight given e).0 in
          kept_brought s flight (outcome_of s flight.whereabouts flight.packet) (λ is. eqb-false serial n other (sym same ∙ is)) there
  kept_call s (Lose serial) given keeps other there = by_flight (is_none (flight_with s.flights serial))
    where
      by_flight : (b : Bool)
          → flight_with (cond b (refused {R = Unit {0}} s NoSuchPacket) (record { fabric = without s serial; result = Ok tt })).fabric.flights n ≡ Some f
      by_flight true = there
      by_flight false = found_without s.flights serial n (λ is. keeps (ap Lose is)) ∙ there
  kept_call s (Repeat serial) given keeps other there = by_flight (flight_with s.flights serial)
    where
      by_flight : (o : Option Flight) → flight_with (copied s o).fabric.flights n ≡ Some f
      by_flight None = there
      by_flight (Some flight) = kept_launched s flight.whereabouts flight.packet there
  kept_call s (Seat p) given keeps other there = by_port (is_switch_at (fabric_of s) p.node || not (is_cable_port s p)) (is_seat_at s p)
    where
      by_port : (b c : Bool)
          → flight_with (cond b (refused {R = Unit {0}} s NoSuchPort) (cond c (refused s PortTaken)
          (record { fabric = record s { agents = with_changed s.agents p.node (λ a. after_set_seat a p.port) }; result = Ok tt }))).fabric.flights n ≡ Some f
      by_port true c = there
      by_port false true = there
      by_port false false = there
