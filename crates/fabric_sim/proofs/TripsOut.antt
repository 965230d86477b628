-- A request on its way out: where it is after a number of deliveries.
use Rattle.std.proofs.Common.{◌≡◌, ℕ, zero, suc, ◌<◌, ◌≤◌, ◌⊎◌, inl, inr, Bool, true, false, ◌&&◌, List, length, refl, sym, ap, ◌∙◌, subst, arith}
use Rattle.std.proofs.lemmas.Bool.{and_parts, leb-true}
use Rattle.std.specs.Prelude.{Some, None, not, is_some, is_none, slice_index, nat_le}
use Rattle.std.specs.Option.{option_map_or}
use Rattle.fabric_model.specs.declared.cable.NodePort.{NodePort}
use Rattle.smp_bytes.specs.Packet.{fault_of, is_directed}
use Rattle.fabric_model.specs.Fabric.{is_switch_at}
use Rattle.fabric_model.proofs.DirectedWalks.{Stops}
use Rattle.dr_forward.specs.declared.here.Here.{Here}
use Rattle.dr_forward.specs.DirectedStep.{Stepped, moved_on}
use Rattle.dr_forward.proofs.Rows.{taken, passed}
use Rattle.dr_forward.proofs.Trips.{IsRequestOver, IsOut, GoesOut, out_directed, goes_out}
use Rattle.fabric_sim.specs.declared.packet.Packet.{Packet}
use Rattle.fabric_sim.specs.declared.flight.Whereabouts.{Whereabouts}
use Rattle.fabric_sim.specs.declared.flight.Whereabouts.TheVariants.{Seat, Arrived}
use Rattle.fabric_sim.specs.declared.flight.Flight.{Flight}
use Rattle.fabric_sim.specs.declared.delivered.Reason.TheVariants.{Down}
use Rattle.fabric_sim.specs.PacketOutcome.{Moves, Drops}
use Rattle.fabric_sim.specs.Simulation.{Simulation, AreCables, port_count, across, fabric_of, port_of, is_at_seat}
use Rattle.fabric_sim.specs.Flights.{flight_with, with_moved}
use Rattle.fabric_sim.specs.Delivery.{after_outcome, delivered_flight, after_deliver}
use Rattle.fabric_sim.specs.PacketOutcome.{carrying, leaving, here_at, by_verdict, directed_outcome, outcome_of}
use Rattle.fabric_sim.proofs.TripFlights.{found_given, found_moved}
use Rattle.fabric_sim.proofs.TripShapes.{IsAlong, port_count_stays, switch_stays}

-- deliveries ------------------------------------------------------------------------------

-- the port of these whereabouts is up, or the packet waits at its sender's seat
abbrev pub MayGo : Simulation → Whereabouts → Type 0
MayGo s whereabouts = (not (is_at_seat whereabouts) && is_none (across s.peers (port_of whereabouts))) ≡ false

pub may_go_over : (s : Simulation) (whereabouts : Whereabouts) (q : NodePort) → across s.peers (port_of whereabouts) ≡ Some q → MayGo s whereabouts
may_go_over s whereabouts q wire = by_seat (not (is_at_seat whereabouts))
  where
    by_seat : (b : Bool) → (b && is_none (across s.peers (port_of whereabouts))) ≡ false
    by_seat true = ap is_none wire
    by_seat false = refl

-- a directed packet makes one step
pub outcome_directed : (s : Simulation) (whereabouts : Whereabouts) (packet : Packet) → fault_of packet.bytes ≡ None → MayGo s whereabouts
    → is_directed packet.bytes ≡ true
    → outcome_of s whereabouts packet ≡ directed_outcome s (port_of whereabouts) packet
unfolding outcome_of
outcome_directed s whereabouts packet parses up directed =
    passed (is_some (fault_of packet.bytes)) _ _ _ (ap is_some parses)
    (passed (not (is_at_seat whereabouts) && is_none (across s.peers (port_of whereabouts))) _ _ _ up (taken (is_directed packet.bytes) _ _ directed))

-- a packet leaves by a port with a cable
pub leaves_over : (s : Simulation) (out into : NodePort) (packet : Packet) → across s.peers out ≡ Some into
    → leaving s out packet ≡ Moves (Arrived into) packet
leaves_over s out into packet wire = ap (λ o. option_map_or (λ x. Moves (Arrived x) packet) o (Drops Down)) wire

-- a cable is in a port from 1 to its node's count
pub record IsPortOf (s : Simulation) (p : NodePort) : Type 0 where
  pub some : 1 ≤ p.port
  pub most : p.port ≤ port_count s p.node

pub cable_in_port : (s : Simulation) (p q : NodePort) → AreCables s → across s.peers p ≡ Some q → IsPortOf s p
cable_in_port s p q cables wire =
    let parts = and_parts (nat_le 1 p.port) (nat_le p.port (port_count s p.node)) (cables.ends p q wire) in
    record { some = leb-true 1 p.port parts.0; most = leb-true p.port (port_count s p.node) parts.1 }

-- the trip --------------------------------------------------------------------------------

-- a request over a path that leads from a seat to a port
pub record Trip (start : Simulation) (origin end : NodePort) (path request : List ℕ) : Type 0 where
  pub cables : AreCables start
  pub stops : Stops (fabric_of start) origin path end
  pub asks : IsRequestOver path request
  pub counts : (id : ℕ) → port_count start id ≤ 254

module _ {start : Simulation} {origin end : NodePort} {path request : List ℕ} (t : Trip start origin end path request) where
  -- the port by which the packet comes to a stop
  unfoldable pub noted : ℕ → ℕ
  noted k = (t.stops.at k).port

  -- where it waits there
  abbrev pub stop_whereabouts : ℕ → Whereabouts
  stop_whereabouts zero = Seat origin
  stop_whereabouts (suc k) = Arrived (t.stops.at (suc k))

  pub stop_port : (k : ℕ) → port_of (stop_whereabouts k) ≡ t.stops.at k
  stop_port zero = sym t.stops.first
  stop_port (suc k) = refl

  -- the cable by which it came leads back
  pub wire_back : (k : ℕ) → k < length path
      → across start.peers (t.stops.at (suc k)) ≡ Some (record { node = (t.stops.at k).node; port = slice_index path k })
  wire_back k less = t.cables.lead_back _ _ (t.stops.wires k less)

  pub stop_in_port : (k : ℕ) → k < length path → IsPortOf start (t.stops.at (suc k))
  stop_in_port k less = cable_in_port start _ _ t.cables (wire_back k less)

  pub noted_small : (i : ℕ) → 0 < i → i ≤ length path → noted i < 256
  unfolding noted
  noted_small zero some most = absurd (omega arith)
  noted_small (suc i) some most =
      let there = stop_in_port i (omega arith) in omega (arith, there.most, t.counts (t.stops.at (suc i)).node)

  -- the request, at its k-th stop
  pub record IsOutThere (s : Simulation) (n k : ℕ) : Type 0 where
    pub flight : Flight
    pub there : flight_with s.flights n ≡ Some flight
    pub whereabouts : flight.whereabouts ≡ stop_whereabouts k
    pub bytes : IsOut request noted k flight.packet.bytes

  -- the packet may go on from each stop
  stop_up : (s : Simulation) → IsAlong start s → (k : ℕ) → k ≤ length path → MayGo s (stop_whereabouts k)
  stop_up s along zero most = refl
  stop_up s along (suc k) most =
      may_go_over s (stop_whereabouts (suc k)) _ (ap (λ ps. across ps (t.stops.at (suc k))) along.peers ∙ wire_back k (omega arith))

  module _ (s : Simulation) (n : ℕ) (along : IsAlong start s) (k : ℕ) (o : IsOutThere s n k) where
    pub at_stop : port_of o.flight.whereabouts ≡ t.stops.at k
    at_stop = ap port_of o.whereabouts ∙ stop_port k

    -- the node there, as a step sees it
    unfoldable pub here : Here
    here = here_at s (port_of o.flight.whereabouts)

    pub arrives : 0 < k → here.arrival ≡ noted k
    unfolding here noted
    arrives some = ap (λ (p : NodePort). p.port) at_stop

    pub is_switch_here : is_switch_at (fabric_of start) (t.stops.at k).node ≡ true → here.is_switch ≡ true
    unfolding here
    is_switch_here h = switch_stays along (port_of o.flight.whereabouts).node ∙ ap (λ (p : NodePort). is_switch_at (fabric_of start) p.node) at_stop ∙ h

    pub ports_here : here.ports ≡ port_count start (t.stops.at k).node
    unfolding here
    ports_here = port_count_stays along (port_of o.flight.whereabouts).node ∙ ap (λ (p : NodePort). port_count start p.node) at_stop

    pub outcome_here : k ≤ length path → outcome_of s o.flight.whereabouts o.flight.packet ≡ directed_outcome s (port_of o.flight.whereabouts) o.flight.packet
    outcome_here most =
        outcome_directed s o.flight.whereabouts o.flight.packet o.bytes.parses (subst (MayGo s) (sym o.whereabouts) (stop_up s along k most))
        (out_directed t.asks noted noted_small o.bytes)

    -- one delivery takes it to the next stop
    module _ (less : k < length path) where
      moved : Flight
      moved = record { serial = n; whereabouts = stop_whereabouts (suc k); packet = carrying o.flight.packet (moved_on here o.flight.packet.bytes) }

      next_wire : across s.peers (record { node = (port_of o.flight.whereabouts).node; port = slice_index path k }) ≡ Some (t.stops.at (suc k))
      next_wire =
          ap (λ ps. across ps (record { node = (port_of o.flight.whereabouts).node; port = slice_index path k })) along.peers
          ∙ ap (λ (p : NodePort). across start.peers (record { node = p.node; port = slice_index path k })) at_stop
          ∙ t.stops.wires k less

      passes : (k ≡ 0) ⊎ (here.is_switch ≡ true)
      passes = by_stop k refl
        where
          by_stop : (j : ℕ) → k ≡ j → (k ≡ 0) ⊎ (here.is_switch ≡ true)
          by_stop zero e = inl e
          by_stop (suc j) e = inr (is_switch_here (t.stops.switches k (omega (arith, e)) less))

      next_port : IsPortOf start (record { node = (t.stops.at k).node; port = slice_index path k })
      next_port = cable_in_port start _ _ t.cables (t.stops.wires k less)

      going : GoesOut t.asks noted noted_small o.bytes here (slice_index path k)
      going =
          goes_out t.asks noted noted_small o.bytes here less passes arrives next_port.some
          (subst (λ m. slice_index path k ≤ m) (sym ports_here) next_port.most)

      outcome_out : outcome_of s o.flight.whereabouts o.flight.packet ≡ Moves (stop_whereabouts (suc k)) moved.packet
      unfolding moved here
      outcome_out =
          outcome_here (omega (arith, less))
          ∙ ap (λ (x : Stepped). by_verdict s (port_of o.flight.whereabouts) (carrying o.flight.packet x.packet) x.verdict) going.step_is
          ∙ leaves_over s _ (t.stops.at (suc k)) moved.packet next_wire

      fabric_out : (after_deliver s n).fabric ≡ record s { flights = with_moved s.flights moved }
      unfolding after_deliver moved
      fabric_out =
          ap (λ o. (delivered_flight s o).fabric) o.there
          ∙ ap (λ x. (after_outcome s o.flight x).fabric) outcome_out
          ∙ ap (λ m. record s { flights = with_moved s.flights (record { serial = m; whereabouts = stop_whereabouts (suc k); packet = moved.packet }) })
          (found_given s.flights n s.next o.flight along.given o.there).0

      pub deliver_out : IsOutThere (after_deliver s n).fabric n (suc k)
      unfolding moved
      deliver_out =
          record {
            flight = moved;
            there = ap (λ (f : Simulation). flight_with f.flights n) fabric_out ∙ found_moved s.flights moved o.flight o.there;
            whereabouts = refl;
            bytes = subst (λ m. IsOut request noted m moved.packet.bytes) (omega arith) going.then;
          }
