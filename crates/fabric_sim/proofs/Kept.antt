-- A simulated fabric stays one, whatever is delivered, lost, copied or sent.
use Rattle.std.proofs.Common.{◌≡◌, ℕ, ◌^◌, ◌<◌, Bool, true, false, cond, List, [], ◌∷◌, refl, subst, arith}
use Rattle.std.proofs.lemmas.Bool.{eqb-false}
use Rattle.std.proofs.lemmas.List.Elements.{All-head, All-tail}
use Rattle.std.specs.Prelude.{Option, Some, None, All, is_none, is_some, not, ◌==◌, ◌&&◌, ◌||◌, Ok}
use Rattle.std.specs.Option.{option_map_or}
use Rattle.fabric_model.specs.declared.cable.NodePort.{NodePort}
use Rattle.fabric_model.specs.declared.course.Course.{Course}
use Rattle.fabric_model.specs.declared.course.Course.TheVariants as course_is
use Rattle.smp_bytes.specs.Field.{number_in}
use Rattle.smp_bytes.specs.Packet.{fault_of, is_directed, is_response, method, transaction_id}
use Rattle.fabric_model.specs.Forwarding.{course}
use Rattle.dr_forward.specs.declared.verdict.Verdict.{Verdict}
use Rattle.dr_forward.specs.declared.verdict.Verdict.TheVariants.{Out, ToAgent, ToManager, Discard}
use Rattle.dr_forward.specs.DirectedStep.{step}
use Rattle.fabric_sim.specs.declared.packet.Packet.{Packet}
use Rattle.fabric_sim.specs.declared.flight.Whereabouts.{Whereabouts}
use Rattle.fabric_sim.specs.declared.flight.Whereabouts.TheVariants.{Seat, Arrived, Made}
use Rattle.fabric_sim.specs.declared.flight.Flight.{Flight}
use Rattle.fabric_sim.specs.declared.fabric_fault.FabricFault.TheVariants.{NoSuchPacket, NoSuchPort, SerialsSpent}
use Rattle.fabric_sim.specs.declared.delivered.Delivered.TheVariants.{Answered}
use Rattle.fabric_sim.specs.declared.delivered.Reason.TheVariants.{Down, Unreadable, Course as OffCourse}
use Rattle.fabric_sim.specs.PacketOutcome.{Outcome, Moves, Asks, HandsUp, Represses, Drops}
use Rattle.fabric_sim.specs.Simulation.{Simulation, IsSimulation, IsWaiting, CanWait, across, is_cable_port, is_seat_at, fabric_of}
use Rattle.fabric_sim.specs.Simulation.{port_of, is_at_seat, is_by_wire}
use Rattle.fabric_sim.specs.Flights.{is_numbered, flight_with}
use Rattle.fabric_sim.specs.Called.{refused}
use Rattle.fabric_sim.specs.Notice.{trap_repress}
use Rattle.fabric_sim.specs.Delivery.{with_flight, without, asked, after_enqueue, after_outcome, delivered_flight, after_deliver}
use Rattle.fabric_sim.specs.PacketOutcome.{CanFare}
use Rattle.fabric_sim.specs.PacketOutcome.{carrying, leaving, is_for_manager, here_at, at_agent, by_verdict, directed_outcome, by_course, lid_routed_outcome, outcome_of}
use Rattle.fabric_sim.specs.Changes.{addressed, after_emit, after_inject, copied, after_repeat, after_lose}
use Rattle.fabric_sim.proofs.Invariants.{with_flight_is, without_is, moved_to_is, asked_is, with_traps_is}

-- where a packet goes it can wait -------------------------------------------------------------

module _ (s : Simulation) (is : IsSimulation s) where
  both : (b : Bool) (x y : Outcome) → CanFare s x → CanFare s y → CanFare s (cond b x y)
  both true x y h k = h
  both false x y h k = k

  leaves : (out : NodePort) (packet : Packet) → CanFare s (leaving s out packet)
  leaves out packet = by_cable (across s.peers out) refl
    where
      by_cable : (m : Option NodePort) → across s.peers out ≡ m → CanFare s (option_map_or (λ into. Moves (Arrived into) packet) m (Drops Down))
      by_cable None e = tt
      by_cable (Some into) e = record { port = is.cables.ends into out (is.cables.lead_back out into e); seat = λ h. cc }

  asks : (p : NodePort) (packet : Packet) → CanFare s (at_agent s p packet)
  asks p packet =
      both (is_response packet.bytes) (Drops OffCourse) _ tt
      (both (is_for_manager s p packet.bytes) (HandsUp packet) (Asks packet.bytes packet.slid packet.dlid) tt tt)

  fares_by_verdict : (p : NodePort) (packet : Packet) (v : Verdict) → CanFare s (by_verdict s p packet v)
  fares_by_verdict p packet (Out port) = leaves (record { node = p.node; port = port }) packet
  fares_by_verdict p packet ToAgent = asks p packet
  fares_by_verdict p packet ToManager = tt
  fares_by_verdict p packet (Discard reason) = tt

  fares_by_course : (p : NodePort) (packet : Packet) (c : Course) → CanFare s (by_course s p packet c)
  fares_by_course p packet (course_is.Delivers q) =
      both (is_response packet.bytes || is_for_manager s p packet.bytes) (HandsUp packet) _ tt
      (both (number_in method packet.bytes == trap_repress) (Represses (number_in transaction_id packet.bytes))
      (Asks packet.bytes packet.dlid packet.slid) tt tt)
  fares_by_course p packet (course_is.LeavesBy out) = leaves out packet
  fares_by_course p packet course_is.Drops = tt

  pub fares : (whereabouts : Whereabouts) (packet : Packet) → CanFare s (outcome_of s whereabouts packet)
  unfolding outcome_of
  fares whereabouts packet =
      let p = port_of whereabouts in
      let stepped = step (here_at s p) packet.bytes in
      both (is_some (fault_of packet.bytes)) (Drops Unreadable) _ tt
      (both (not (is_at_seat whereabouts) && is_none (across s.peers p)) (Drops Down) _ tt
      (both (is_directed packet.bytes) (directed_outcome s p packet) (lid_routed_outcome s whereabouts packet)
      (fares_by_verdict p (carrying packet stepped.packet) stepped.verdict)
      (fares_by_course p packet (course (fabric_of s) packet.dlid (record { at = p; by_wire = is_by_wire whereabouts })))))

-- calls ---------------------------------------------------------------------------------------

pub found_waits : (s : Simulation) (flights : List Flight) (n : ℕ) (f : Flight) → All (IsWaiting s) flights → flight_with flights n ≡ Some f → IsWaiting s f
found_waits s [] n f all h = absurd (cc)
found_waits s (x ∷ flights) n f all h =
    by_first (is_numbered n x) h (λ k. found_waits s flights n f (All-tail (IsWaiting s) x flights all) k)
  where
    by_first : (b : Bool) → cond b (Some x) (flight_with flights n) ≡ Some f → (flight_with flights n ≡ Some f → IsWaiting s f) → IsWaiting s f
    by_first true e later = let same : x ≡ f = cc in subst (IsWaiting s) same (All-head (IsWaiting s) x flights all)
    by_first false e later = later e

module _ (s : Simulation) (is : IsSimulation s) where
  left : (s.next == 2 ^ 64) ≡ false → s.next < 2 ^ 64
  left e = omega (arith, is.next, eqb-false s.next (2 ^ 64) e)

  brought_is : (flight : Flight) (o : Outcome) → CanWait s flight.whereabouts → CanFare s o → IsSimulation (after_outcome s flight o).fabric
  brought_is flight (Moves whereabouts packet) waits can = moved_to_is s flight.serial whereabouts packet is can
  brought_is flight (Asks request slid dlid) waits can = by_serial (s.next == 2 ^ 64) refl
    where
      by_serial : (b : Bool) → (s.next == 2 ^ 64) ≡ b
          → IsSimulation (cond b (refused s SerialsSpent) (record { fabric = asked s flight request slid dlid; result = Ok (Answered s.next) })).fabric
      by_serial true e = is
      by_serial false e = asked_is s flight request slid dlid is waits (left e)
  brought_is flight (HandsUp packet) waits can = without_is s flight.serial is
  brought_is flight (Represses number) waits can = with_traps_is _ _ (without_is s flight.serial is)
  brought_is flight (Drops reason) waits can = without_is s flight.serial is

  pub delivered_is : (serial : ℕ) → IsSimulation (after_deliver s serial).fabric
  unfolding after_deliver
  delivered_is serial = by_flight (flight_with s.flights serial) refl
    where
      by_flight : (o : Option Flight) → flight_with s.flights serial ≡ o → IsSimulation (delivered_flight s o).fabric
      by_flight None e = is
      by_flight (Some flight) e =
          brought_is flight (outcome_of s flight.whereabouts flight.packet) (found_waits s s.flights serial flight is.waiting e).whereabouts
          (fares s is flight.whereabouts flight.packet)

  launched_is : (whereabouts : Whereabouts) (packet : Packet) → CanWait s whereabouts → IsSimulation (after_enqueue s whereabouts packet).fabric
  launched_is whereabouts packet can = by_serial (s.next == 2 ^ 64) refl
    where
      by_serial : (b : Bool) → (s.next == 2 ^ 64) ≡ b
          → IsSimulation (cond b (refused s SerialsSpent) (record { fabric = with_flight s whereabouts packet; result = Ok s.next })).fabric
      by_serial true e = is
      by_serial false e = with_flight_is s whereabouts packet is can (left e)

  pub injected_is : (p : NodePort) (packet : Packet) → IsSimulation (after_inject s p packet).fabric
  unfolding after_inject
  injected_is p packet = by_seat (is_seat_at s p) refl
    where
      by_seat : (b : Bool) → is_seat_at s p ≡ b → IsSimulation (cond (not b) (refused s NoSuchPort) (after_enqueue s (Seat p) (addressed s p packet))).fabric
      by_seat false e = is
      by_seat true e = launched_is (Seat p) (addressed s p packet) (record { port = is.seats p e; seat = λ h. e })

  pub emitted_is : (p : NodePort) (packet : Packet) → IsSimulation (after_emit s p packet).fabric
  unfolding after_emit
  emitted_is p packet = by_port (is_cable_port s p) refl
    where
      by_port : (b : Bool) → is_cable_port s p ≡ b → IsSimulation (cond (not b) (refused s NoSuchPort) (after_enqueue s (Made p) packet)).fabric
      by_port false e = is
      by_port true e = launched_is (Made p) packet (record { port = e; seat = λ h. absurd (cc) })

  pub repeated_is : (serial : ℕ) → IsSimulation (after_repeat s serial).fabric
  unfolding after_repeat
  repeated_is serial = by_flight (flight_with s.flights serial) refl
    where
      by_flight : (o : Option Flight) → flight_with s.flights serial ≡ o → IsSimulation (copied s o).fabric
      by_flight None e = is
      by_flight (Some flight) e = launched_is flight.whereabouts flight.packet (found_waits s s.flights serial flight is.waiting e).whereabouts

  pub lost_is : (serial : ℕ) → IsSimulation (after_lose s serial).fabric
  unfolding after_lose
  lost_is serial = by_flight (is_none (flight_with s.flights serial))
    where
      by_flight : (b : Bool) → IsSimulation (cond b (refused {R = Unit {0}} s NoSuchPacket) (record { fabric = without s serial; result = Ok tt })).fabric
      by_flight true = is
      by_flight false = without_is s serial is
