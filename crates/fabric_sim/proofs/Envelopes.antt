-- A packet delivered at its index, by its envelope and its bytes, fares as `after_deliver` says.
use Rattle.std.proofs.Common.{◌≡◌, ℕ, List, refl, ap, sym, ◌∙◌, subst, get_or}
use Rattle.std.specs.Prelude.{Option, Some, None, Ok, is_some, option_map, slice_get}
use Rattle.std.proofs.lemmas.Bool.{cond-true}
use Rattle.std.proofs.lemmas.Option.{get_or_from_slice_get}
use Rattle.smp_bytes.specs.Packet.{fault_of}
use Rattle.smp_bytes.specs.declared.smp_fault.SmpFault.{SmpFault}
use Rattle.fabric_sim.specs.declared.action.Action.{Action}
use Rattle.fabric_sim.specs.declared.delivered.Delivered.{Delivered}
use Rattle.fabric_sim.specs.declared.delivered.Delivered.TheVariants.{Discarded}
use Rattle.fabric_sim.specs.declared.delivered.Reason.TheVariants.{Unreadable}
use Rattle.fabric_sim.specs.declared.envelope.Envelope.{Envelope}
use Rattle.fabric_sim.specs.declared.flight.Flight.{Flight}
use Rattle.fabric_sim.specs.declared.flight.Whereabouts.{Whereabouts}
use Rattle.fabric_sim.specs.declared.packet.Packet.{Packet}
use Rattle.fabric_sim.specs.PacketOutcome.{Outcome, Moves, Asks, HandsUp, Represses, Drops}
use Rattle.fabric_sim.specs.Simulation.{Simulation, IsSimulation}
use Rattle.fabric_sim.specs.Flights.{Finds, flight_with}
use Rattle.fabric_sim.specs.Called.{Called}
use Rattle.fabric_sim.specs.Delivery.{IsEnvelopeAt, after_deliver, after_outcome, delivered_flight, envelope_of, flight_in, packet_in, without}
use Rattle.fabric_sim.specs.PacketOutcome.{CanFare, outcome_by}
use Rattle.fabric_sim.specs.PacketOutcome.{outcome_of}
use Rattle.fabric_sim.proofs.Kept.{fares}
use Rattle.fabric_sim.proofs.Serials.{at_index}

-- the packet at an index, by what is known of it beside its bytes
pub record OfEnvelope (flights : List Flight) (i : ℕ) (envelope : Envelope) : Type 0 where
  pub flight : Flight
  pub at : slice_get flights i ≡ Some flight
  pub same : envelope_of flight ≡ envelope

pub of_envelope : (flights : List Flight) (i : ℕ) (envelope : Envelope) → IsEnvelopeAt flights i envelope → OfEnvelope flights i envelope
of_envelope flights i envelope h = by (slice_get flights i) refl h
  where
    by : (m : Option Flight) → slice_get flights i ≡ m → option_map envelope_of m ≡ Some envelope → OfEnvelope flights i envelope
    by None e h = cc
    by (Some f) e h = let same : envelope_of f ≡ envelope = cc in record { flight = f; at = e; same = same }

-- the packet that has a serial number, as it is read at its index
pub record IsRead (s : Simulation) (serial : ℕ) (f : Flight) : Type 0 where
  pub found : flight_with s.flights serial ≡ Some f
  pub number : f.serial ≡ serial

pub read : (v s : Simulation) → v ≡ s → (serial i : ℕ) (f : Flight) → Finds s.flights serial (Some i) → f ≡ get_or v.flights i f → IsRead s serial f
read v s e serial i f finds here =
    let p = at_index s.flights i serial finds.0 in
    let now : f ≡ get_or s.flights i f = subst (λ (w : Simulation). f ≡ get_or w.flights i f) e here in
    let same : f ≡ p.flight = now ∙ get_or_from_slice_get s.flights i p.flight f p.at in
    record {
      found = sym finds.1 ∙ (p.at ∙ ap (λ g. Some g) (sym same));
      number = ap (λ (g : Flight). g.serial) same ∙ p.number;
    }

-- what moves by an action can wait where it comes to
pub can_act : (v s : Simulation) → v ≡ s → (envelope : Envelope) (smp stepped : List ℕ) (action : Action) → IsSimulation v
    → outcome_by (packet_in envelope stepped) action ≡ outcome_of s envelope.whereabouts (packet_in envelope smp)
    → CanFare s (outcome_by (packet_in envelope stepped) action)
can_act v s e envelope smp stepped action is h =
    subst (CanFare s) (sym h) (fares s (subst IsSimulation e is) envelope.whereabouts (packet_in envelope smp))

-- the bytes from before are lost in any case
with_other_bytes : (s : Simulation) (f : Flight) (bytes : List ℕ) (o : Outcome) → after_outcome s (flight_in (envelope_of f) bytes) o ≡ after_outcome s f o
with_other_bytes s f bytes (Moves whereabouts packet) = refl
with_other_bytes s f bytes (Asks request slid dlid) = refl
with_other_bytes s f bytes (HandsUp packet) = refl
with_other_bytes s f bytes (Represses number) = refl
with_other_bytes s f bytes (Drops reason) = refl

-- an action does what the delivery does
pub acted : (s : Simulation) (serial : ℕ) (f : Flight) (envelope : Envelope) (smp stepped : List ℕ) (action : Action) → IsRead s serial f
    → envelope ≡ envelope_of f → smp ≡ f.packet.bytes
    → outcome_by (packet_in envelope stepped) action ≡ outcome_of s envelope.whereabouts (packet_in envelope smp)
    → after_outcome s (flight_in envelope stepped) (outcome_by (packet_in envelope stepped) action) ≡ after_deliver s serial
unfolding after_deliver
acted s serial f envelope smp stepped action read same kept h =
    let fate : outcome_of s envelope.whereabouts (packet_in envelope smp) ≡ outcome_of s f.whereabouts f.packet =
    ap (λ (e : Envelope). outcome_of s e.whereabouts (packet_in e smp)) same
    ∙ ap (λ b. outcome_of s f.whereabouts (packet_in (envelope_of f) b)) kept in
    ap (after_outcome s (flight_in envelope stepped)) (h ∙ fate)
    ∙ (ap (λ (e : Envelope). after_outcome s (flight_in e stepped) (outcome_of s f.whereabouts f.packet)) same
    ∙ (with_other_bytes s f stepped (outcome_of s f.whereabouts f.packet) ∙ ap (delivered_flight s) (sym read.found)))

-- what doesn't parse is dropped
unreadable : (s : Simulation) (whereabouts : Whereabouts) (packet : Packet) (fault : SmpFault) → fault_of packet.bytes ≡ Some fault
    → outcome_of s whereabouts packet ≡ Drops Unreadable
unfolding outcome_of
unreadable s whereabouts packet fault e = cond-true _ _ _ (ap is_some e)

pub dropped : (s : Simulation) (serial : ℕ) (f : Flight) (fault : SmpFault) → IsRead s serial f → fault_of f.packet.bytes ≡ Some fault
    → ◌≡◌ {A = Called Delivered} (record { fabric = without s serial; result = Ok (Discarded Unreadable) }) (after_deliver s serial)
unfolding after_deliver
dropped s serial f fault read e =
    ap (λ n. after_outcome s (record f { serial = n }) (Drops Unreadable)) (sym read.number)
    ∙ (ap (after_outcome s f) (sym (unreadable s f.whereabouts f.packet fault e)) ∙ ap (delivered_flight s) (sym read.found))
