-- A TrapRepress ends its trap.
use Rattle.std.proofs.Common.{◌≡◌, ◌≢◌, ℕ, zero, suc, ◌/◌, ◌%◌, ◌^◌, Bool, true, false, cond, not, ◌==◌, ◌&&◌, ◌||◌}
use Rattle.std.proofs.Common.{List, [], ◌∷◌, get_or, refl, sym, ap, ◌∙◌, subst, arith}
use Rattle.std.specs.Prelude.{Option, Some, None, All, is_none, is_some, option_map, slice_get, slice_index_or, slice_set}
use Rattle.std.specs.Option.{option_map_or}
use Rattle.std.proofs.lemmas.Bool.{eq-eqb, eqb-true}
use Rattle.std.proofs.lemmas.Option.{slice_get-map}
use Rattle.fabric_model.specs.declared.cable.NodePort.{NodePort}
use Rattle.fabric_model.specs.Fabric.{is_switch_at}
use Rattle.smp_bytes.specs.Field.{number_in}
use Rattle.smp_bytes.specs.NodeType as types
use Rattle.smp_bytes.specs.Header.{sm_info}
use Rattle.smp_bytes.specs.Packet.{attribute_id, fault_of, is_directed, is_response, method}
use Rattle.smp_bytes.proofs.BitLaws.{byte-number_in}
use Rattle.dr_forward.proofs.Rows.{passed, taken}
use Rattle.node_agents.specs.Agent.{Agent, has_seat, is_switch, node_of, port_in}
use Rattle.node_agents.specs.declared.port.Port.{Port}
use Rattle.attr_codec.specs.declared.port_state.PortState.TheVariants.{Down}
use Rattle.fabric_sim.specs.declared.delivered.Delivered.{Delivered}
use Rattle.fabric_sim.specs.declared.flight.Flight.{Flight}
use Rattle.fabric_sim.specs.PacketOutcome.{Represses}
use Rattle.fabric_sim.specs.Called.{Called}
use Rattle.fabric_sim.specs.Delivery.{after_deliver, after_outcome, delivered_flight}
use Rattle.fabric_sim.specs.PacketOutcome.{by_course, is_for_manager, is_trap, outcome_of}
use Rattle.fabric_sim.specs.Notice.{trap_repress}
use Rattle.fabric_sim.specs.Simulation.{Simulation, IsSimulation, across, agent_at, fabric_of, is_at_seat, is_seat_at}
use Rattle.fabric_sim.specs.Simulation.{port_of}
use Rattle.fabric_sim.specs.Flights.{flight_with}
use Rattle.fabric_sim.specs.Traps.{Traps, is_waiting, trap_at, without_trap}
use Rattle.fabric_sim.specs.TrapLaws.{EndsTrap, IsRepress, RepressesEndTraps}
use Rattle.fabric_sim.proofs.TripShapes.{agent_there}
use Rattle.fabric_sim.proofs.TripEnds.{agents_of}

-- traps -----------------------------------------------------------------------------------------

set_none : (xs : List (Option ℕ)) (id : ℕ) → slice_index_or (slice_set xs id None) id None ≡ None
set_none [] id = refl
set_none (x ∷ xs) zero = refl
set_none (x ∷ xs) (suc id) = set_none xs id

set_other : (xs : List (Option ℕ)) (id other : ℕ) → other ≢ id → slice_index_or (slice_set xs id None) other None ≡ slice_index_or xs other None
set_other [] id other h = refl
set_other (x ∷ xs) zero zero h = absurd (h refl)
set_other (x ∷ xs) zero (suc other) h = refl
set_other (x ∷ xs) (suc id) zero h = refl
set_other (x ∷ xs) (suc id) (suc other) h = set_other xs id other (λ e. h (ap suc e))

ended_at : (t : Traps) (id number : ℕ) → trap_at t id ≡ Some number → trap_at (without_trap t id number) id ≡ None
ended_at t id number there =
    let waits : is_waiting t id number ≡ true = ap (λ o. option_map_or (λ n. n == number) o false) there ∙ eq-eqb number number refl in
    ap (λ b. trap_at (cond b (record t { waiting = slice_set t.waiting id None }) t) id) waits ∙ set_none t.waiting id

kept_at : (t : Traps) (id number : ℕ) → trap_at t id ≢ Some number → trap_at (without_trap t id number) id ≡ trap_at t id
kept_at t id number apart = by (trap_at t id) refl
  where
    by_number : (b : Bool) → is_waiting t id number ≡ b → (b ≡ true → ⊥) → trap_at (without_trap t id number) id ≡ trap_at t id
    by_number true e h = absurd (h refl)
    by_number false e h = ap (λ b. trap_at (cond b (record t { waiting = slice_set t.waiting id None }) t) id) e

    by : (o : Option ℕ) → trap_at t id ≡ o → trap_at (without_trap t id number) id ≡ trap_at t id
    by None e = by_number false (ap (λ o. option_map_or (λ n. n == number) o false) e) (λ h. cc)
    by (Some n) e =
        by_number (n == number) (ap (λ o. option_map_or (λ n. n == number) o false) e)
        (λ h. apart (e ∙ ap (λ k. Some k) (eqb-true n number h)))

others_at : (t : Traps) (id number other : ℕ) → other ≢ id → trap_at (without_trap t id number) other ≡ trap_at t other
others_at t id number other h = by (is_waiting t id number)
  where
    by : (b : Bool) → trap_at (cond b (record t { waiting = slice_set t.waiting id None }) t) other ≡ trap_at t other
    by true = set_other t.waiting id other h
    by false = refl

-- the packet at its switch ------------------------------------------------------------------------

no_manager : (ports : List Port) (port : ℕ) → All (λ p. p.is_sm ≡ false) ports → (slice_index_or ports port (port_in Down)).is_sm ≡ false
no_manager [] port all = refl
no_manager (p ∷ ports) zero all = all 0 p (omega arith)
no_manager (p ∷ ports) (suc port) all = no_manager ports port (λ k d less. all (suc k) d (omega (arith, less)))

is_some_not_none : {A : Type 0} (m : Option A) → is_some m ≡ true → is_none m ≡ false
is_some_not_none None e = cc
is_some_not_none (Some x) e = refl

and_false : (b : Bool) → (b && false) ≡ false
and_false true = refl
and_false false = refl

module _ (s : Simulation) (is : IsSimulation s) (flight : Flight) (id number : ℕ) (r : IsRepress s flight id number) where
  bytes : List ℕ
  bytes = flight.packet.bytes

  at : NodePort
  at = port_of flight.whereabouts

  -- nobody sits at a switch
  nobody : is_seat_at s at ≡ false
  unfolding at
  nobody = by (agent_at s at.node) refl
    where
      switch_there : (a : Agent) → agent_at s at.node ≡ Some a → is_switch a ≡ true
      switch_there a e =
          let node : slice_get (fabric_of s).nodes at.node ≡ Some (node_of a) = slice_get-map node_of s.agents at.node ∙ ap (option_map node_of) e in
          sym (ap (λ m. option_map_or (λ node. types.is_switch node.kind) m false) node)
          ∙ subst (λ n. is_switch_at (fabric_of s) n ≡ true) (sym r.node) r.switch

      by : (m : Option Agent) → agent_at s at.node ≡ m → option_map_or (λ a. has_seat a at.port) m false ≡ false
      by None e = refl
      by (Some a) e =
          let good = agent_there s.agents at.node a (agents_of s.agents is.agents) e in
          no_manager a.ports at.port (λ k d less. (good.ports k d less).is_sm (switch_there a e))

  for_nobody : is_for_manager s at bytes ≡ false
  for_nobody = ap (λ b. (number_in attribute_id bytes == sm_info || is_trap bytes) && b) nobody ∙ and_false _

  asks : is_response bytes ≡ false
  unfolding bytes
  asks =
      let byte : get_or flight.packet.bytes 3 0 ≡ trap_repress = sym (byte-number_in 3 flight.packet.bytes) ∙ r.represses in
      ap (λ b. b / 2 ^ 7 % 2 ^ 1 == 1) byte

  comes_to : outcome_of s flight.whereabouts flight.packet ≡ Represses number
  unfolding outcome_of bytes at
  comes_to =
      let up : (not (is_at_seat flight.whereabouts) && is_none (across s.peers (port_of flight.whereabouts))) ≡ false =
      ap (λ b. not (is_at_seat flight.whereabouts) && b) (is_some_not_none (across s.peers (port_of flight.whereabouts)) r.cable)
      ∙ and_false (not (is_at_seat flight.whereabouts)) in
      passed (is_some (fault_of flight.packet.bytes)) _ _ _ (ap is_some r.parses)
      (passed _ _ _ _ up
      (passed (is_directed flight.packet.bytes) _ _ _ r.by_lids
      (ap (by_course s (port_of flight.whereabouts) flight.packet) r.arrives
      ∙ passed (is_response flight.packet.bytes || is_for_manager s (port_of flight.whereabouts) flight.packet.bytes) _ _ _
      (ap (λ b. b || is_for_manager s (port_of flight.whereabouts) flight.packet.bytes) asks ∙ for_nobody)
      (taken (number_in method flight.packet.bytes == trap_repress) _ _ (eq-eqb _ _ r.represses) ∙ ap (λ n. Represses n) r.transaction))))

  done : (serial : ℕ) → flight_with s.flights serial ≡ Some flight → after_deliver s serial ≡ after_outcome s flight (Represses number)
  unfolding after_deliver
  done serial there = ap (delivered_flight s) there ∙ ap (after_outcome s flight) comes_to

  pub ends : (serial : ℕ) → flight_with s.flights serial ≡ Some flight → EndsTrap s (after_deliver s serial) id number
  unfolding at
  ends serial there =
      subst (λ (c : Called Delivered). EndsTrap s c id number) (sym (done serial there))
      (subst (λ n. EndsTrap s (record (after_outcome s flight (Represses number)) {
        fabric = record (after_outcome s flight (Represses number)).fabric { traps = without_trap s.traps n number };
      }) id number) (sym r.node) (record {
        discarded = refl;
        ended = ended_at s.traps id number;
        newer = kept_at s.traps id number;
        others = others_at s.traps id number;
      }))

pub represses_end_traps : RepressesEndTraps
represses_end_traps s serial id number flight is there r = ends s is flight id number r serial there
