-- An answer on its way back: where it is after a number of deliveries.
use Rattle.std.proofs.Common.{◌≡◌, ℕ, zero, suc, ◌<◌, ◌≤◌, ◌⊎◌, inl, inr, true, List, [], ◌∷◌, length, refl, sym, ap, ◌∙◌, subst, arith}
use Rattle.std.proofs.lemmas.Bool.{cases_lt}
use Rattle.std.specs.Prelude.{Some, slice_index, Ok}
use Rattle.fabric_model.specs.declared.cable.NodePort.{NodePort}
use Rattle.fabric_model.specs.Fabric.{is_switch_at}
use Rattle.dr_forward.specs.declared.here.Here.{Here}
use Rattle.dr_forward.specs.DirectedStep.{Stepped, pointed}
use Rattle.dr_forward.proofs.Trips.{IsBack, IsAnswerBack, GoesBack, IsHome, back_directed, goes_back, is_home}
use Rattle.fabric_sim.specs.declared.packet.Packet.{Packet}
use Rattle.fabric_sim.specs.declared.flight.Whereabouts.{Whereabouts}
use Rattle.fabric_sim.specs.declared.flight.Whereabouts.TheVariants.{Arrived, Made}
use Rattle.fabric_sim.specs.declared.flight.Flight.{Flight}
use Rattle.fabric_sim.specs.declared.delivered.Delivered.TheVariants.{ToManager}
use Rattle.fabric_sim.specs.PacketOutcome.{Moves}
use Rattle.fabric_sim.specs.Simulation.{Simulation, port_count, across, fabric_of, port_of, answer_whereabouts}
use Rattle.fabric_sim.specs.Flights.{flight_with, with_moved}
use Rattle.fabric_sim.specs.Delivery.{after_outcome, delivered_flight, after_deliver}
use Rattle.fabric_sim.specs.PacketOutcome.{carrying, here_at, by_verdict, directed_outcome, outcome_of}
use Rattle.fabric_sim.specs.ThereAndBack.{BeginsWith}
use Rattle.fabric_sim.proofs.TripFlights.{found_given, found_moved}
use Rattle.fabric_sim.proofs.TripShapes.{IsAlong, port_count_stays, switch_stays}
use Rattle.fabric_sim.proofs.TripsOut.{MayGo, may_go_over, outcome_directed, leaves_over, IsPortOf, Trip, noted, stop_whereabouts, wire_back, stop_in_port}

module _ {start : Simulation} {origin end : NodePort} {path request : List ℕ} (t : Trip start origin end path request) (own : BeginsWith origin.port path)
    {answer : List ℕ} (r : IsAnswerBack (length path) answer) where
  -- the port at which the answer comes to the k-th stop again: it left that stop by the path's next port
  abbrev pub back_port : ℕ → NodePort
  back_port k = record { node = (t.stops.at k).node; port = slice_index path k }

  -- where the answer waits at its k-th stop
  pub record IsBackWhereabouts (k : ℕ) (whereabouts : Whereabouts) : Type 0 where
    pub last : k ≡ length path → whereabouts ≡ answer_whereabouts (stop_whereabouts t k)
    pub before : k < length path → whereabouts ≡ Arrived (back_port k)

  -- the answer, at its k-th stop
  pub record IsBackThere (s : Simulation) (n k : ℕ) : Type 0 where
    pub flight : Flight
    pub there : flight_with s.flights n ≡ Some flight
    pub whereabouts : IsBackWhereabouts k flight.whereabouts
    pub bytes : IsBack answer (noted t) (length path) k flight.packet.bytes
    pub most : k ≤ length path

  answer_port : (k : ℕ) → port_of (answer_whereabouts (stop_whereabouts t k)) ≡ t.stops.at k
  answer_port zero = sym t.stops.first
  answer_port (suc k) = refl

  module _ (s : Simulation) (n : ℕ) (along : IsAlong start s) (k : ℕ) (o : IsBackThere s n k) where
    -- at the last stop or before it
    last_or_before : (k ≡ length path) ⊎ (k < length path)
    last_or_before = elim (cases_lt k (length path)) [ inl less ↦ inr less | inr beyond ↦ inl (omega (arith, o.most, beyond)) ]

    at_node : (port_of o.flight.whereabouts).node ≡ (t.stops.at k).node
    at_node = elim last_or_before [
      | inl last ↦ ap (λ (p : NodePort). p.node) (ap port_of (o.whereabouts.last last) ∙ answer_port k)
      | inr less ↦ ap (λ p. (port_of p).node) (o.whereabouts.before less)
    ]

    here : Here
    here = here_at s (port_of o.flight.whereabouts)

    is_switch_here : is_switch_at (fabric_of start) (t.stops.at k).node ≡ true → here.is_switch ≡ true
    unfolding here
    is_switch_here h = switch_stays along (port_of o.flight.whereabouts).node ∙ ap (is_switch_at (fabric_of start)) at_node ∙ h

    ports_here : here.ports ≡ port_count start (t.stops.at k).node
    unfolding here
    ports_here = port_count_stays along (port_of o.flight.whereabouts).node ∙ ap (port_count start) at_node

    same_wires : (p : NodePort) → across s.peers p ≡ across start.peers p
    same_wires p = ap (λ ps. across ps p) along.peers

    up : MayGo s o.flight.whereabouts
    up = elim last_or_before [
      | inl last ↦ subst (MayGo s) (sym (o.whereabouts.last last)) (at_end k last)
      | inr less ↦ subst (MayGo s) (sym (o.whereabouts.before less)) (may_go_over s (Arrived (back_port k)) _ (same_wires (back_port k) ∙ t.stops.wires k less))
    ]
      where
        at_end : (j : ℕ) → j ≡ length path → MayGo s (answer_whereabouts (stop_whereabouts t j))
        at_end zero e = refl
        at_end (suc j) e = may_go_over s (Made (t.stops.at (suc j))) _ (same_wires (t.stops.at (suc j)) ∙ wire_back t j (omega (arith, e)))

    outcome_here : outcome_of s o.flight.whereabouts o.flight.packet ≡ directed_outcome s (port_of o.flight.whereabouts) o.flight.packet
    outcome_here = outcome_directed s o.flight.whereabouts o.flight.packet o.bytes.parses up (back_directed r (noted t) o.bytes)

    -- one delivery takes it to the stop before
    module _ (before : ℕ) (is : k ≡ suc before) where
      moved : Flight
      moved = record { serial = n; whereabouts = Arrived (back_port before); packet = carrying o.flight.packet (pointed k o.flight.packet.bytes) }

      passes : (length path ≡ k) ⊎ (here.is_switch ≡ true)
      passes = elim last_or_before [
        | inl last ↦ inl (sym last)
        | inr less ↦ inr (is_switch_here (t.stops.switches k (omega (arith, is)) less))
      ]

      this_port : IsPortOf start (t.stops.at k)
      this_port = subst (λ j. IsPortOf start (t.stops.at j)) (sym is) (stop_in_port t before (omega (arith, is, o.most)))

      going : GoesBack r (noted t) o.bytes here before
      unfolding noted
      going =
          goes_back r (noted t) o.bytes here before (omega (arith, is)) o.most passes this_port.some
          (subst (λ m. noted t k ≤ m) (sym ports_here) this_port.most)

      back_wire : across s.peers (record { node = (port_of o.flight.whereabouts).node; port = noted t k }) ≡ Some (back_port before)
      unfolding noted
      back_wire =
          same_wires _
          ∙ ap (λ m. across start.peers (record { node = m; port = (t.stops.at k).port })) at_node
          ∙ ap (λ j. across start.peers (t.stops.at j)) is
          ∙ wire_back t before (omega (arith, is, o.most))

      outcome_back : outcome_of s o.flight.whereabouts o.flight.packet ≡ Moves (Arrived (back_port before)) moved.packet
      unfolding moved here
      outcome_back =
          outcome_here
          ∙ ap (λ (x : Stepped). by_verdict s (port_of o.flight.whereabouts) (carrying o.flight.packet x.packet) x.verdict) going.step_is
          ∙ leaves_over s _ (back_port before) moved.packet back_wire

      fabric_back : (after_deliver s n).fabric ≡ record s { flights = with_moved s.flights moved }
      unfolding after_deliver moved
      fabric_back =
          ap (λ x. (delivered_flight s x).fabric) o.there
          ∙ ap (λ x. (after_outcome s o.flight x).fabric) outcome_back
          ∙ ap (λ m. record s { flights = with_moved s.flights (record { serial = m; whereabouts = Arrived (back_port before); packet = moved.packet }) })
          (found_given s.flights n s.next o.flight along.given o.there).0

      pub deliver_back : IsBackThere (after_deliver s n).fabric n before
      unfolding moved
      deliver_back =
          record {
            flight = moved;
            there = ap (λ (f : Simulation). flight_with f.flights n) fabric_back ∙ found_moved s.flights moved o.flight o.there;
            whereabouts = record { last = λ e. absurd (omega (arith, e, is, o.most)); before = λ less. refl };
            bytes = going.then;
            most = omega (arith, is, o.most);
          }

    -- at its first stop it is handed up, where the request was sent from
    pub record HandedUp : Type 0 where
      pub packet : Packet
      pub result : (after_deliver s n).result ≡ Ok (ToManager origin packet)
      pub home : IsHome r (noted t) o.bytes (here_at s (port_of o.flight.whereabouts))
      pub bytes : packet.bytes ≡ pointed 0 o.flight.packet.bytes

    home_port : k ≡ 0 → port_of o.flight.whereabouts ≡ origin
    home_port first = elim last_or_before [
      | inl last ↦ ap port_of (o.whereabouts.last last) ∙ answer_port k ∙ ap t.stops.at first ∙ t.stops.first
      | inr less ↦ ap port_of (o.whereabouts.before less) ∙ ap back_port first ∙ by_path path refl (omega (arith, less))
    ]
      where
        by_path : (ports : List ℕ) → path ≡ ports → 0 < length path → back_port 0 ≡ origin
        by_path [] e some = absurd (omega (arith, ap length e, some))
        by_path (p ∷ ports) e some =
            let port : slice_index path 0 ≡ origin.port = ap (λ ps. slice_index ps 0) e ∙ subst (BeginsWith origin.port) e own in
            (λ j. record { node = (t.stops.first j).node; port = port j })

    pub deliver_home : k ≡ 0 → HandedUp
    unfolding after_deliver here
    deliver_home first =
        let home = is_home r (noted t) o.bytes here first in
        let packet : Packet = carrying o.flight.packet (pointed 0 o.flight.packet.bytes) in
        record {
          packet = packet;
          result = ap (λ x. (delivered_flight s x).result) o.there
              ∙ ap (λ x. (after_outcome s o.flight x).result)
              (outcome_here ∙ ap (λ (x : Stepped). by_verdict s (port_of o.flight.whereabouts) (carrying o.flight.packet x.packet) x.verdict) home.step_is)
              ∙ ap (λ p. Ok (ToManager p packet)) (home_port first);
          home = home;
          bytes = refl;
        }
