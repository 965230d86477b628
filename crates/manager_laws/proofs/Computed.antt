-- What is found by computing a run: tests that are right, and what a manager writes by what it knows.
use Rattle.std.proofs.Common.{◌≡◌, inl, ℕ, ◌+◌, ◌||◌, ◌&&◌, Bool, true, false, List, [], ◌∷◌, ◌++◌}
use Rattle.std.proofs.Common.{refl, sym, ap, ◌∙◌}
use Rattle.std.proofs.lemmas.Bool.{and_parts, eqb-true}
use Rattle.std.specs.Prelude.{Option, Some, None, Contains, Result, Ok, is_some, ◌==◌, not}
use Rattle.std.specs.List.{AllByRecursion, list_all}
use Rattle.fabric_model.specs.declared.cable.NodePort.{NodePort}
use Rattle.smp_bytes.specs.declared.node_type.NodeType.TheVariants.{ChannelAdapter, Switch}
use Rattle.fabric_model.specs.Cables.{is_same_port}
use Rattle.fabric_model.specs.DirectedWalk.{directed_end}
use Rattle.fabric_model.specs.Fabric.{Fabric}
use Rattle.smp_bytes.specs.Field.{bytes_in, number_in}
use Rattle.smp_bytes.specs.Packet.{attribute_id, attribute_modifier, attribute_data}
use Rattle.fabric_model.proofs.Cabled.{same_port-is}
use Rattle.fact_join.specs.declared.cell.Cell.{Cell}
use Rattle.fact_join.specs.declared.cell.Cell.TheVariants.{Known}
use Rattle.reply_facts.specs.declared.key.Key.{Key}
use Rattle.reply_facts.specs.declared.key.Key.TheVariants.{Node as NodeKey, PortGuid, Link, Port as PortKey, Cap, Claim}
use Rattle.reply_facts.specs.declared.value.Value.{Value}
use Rattle.reply_facts.specs.declared.value.Value.TheVariants.{Kind, Guid, Peer, Up, Count, Lid}
use Rattle.fact_store.specs.Merge.{merge}
use Rattle.reply_facts.specs.Report.{Sightings}
use Rattle.fact_store.specs.View.{Facts, cells_of, view}
use Rattle.fact_store.proofs.Views.{view_of_both}
use Rattle.subnet_view.specs.Reading.{Cells}
use Rattle.subnet_view.proofs.Members.{contains_here, contains_later}
use Rattle.lft_blocks.specs.Rule.{up_and_down}
use Rattle.lft_blocks.specs.Plan.{PlanValue, plan_of}
use Rattle.plan_steps.specs.declared.step.Step.{Step}
use Rattle.plan_steps.specs.Bound.{most_steps}
use Rattle.plan_steps.specs.Phase.{Phase, phases_of}
use Rattle.plan_steps.specs.PlannedTree.{planned_tree}
use Rattle.fabric_sim.specs.declared.delivered.Delivered.{Delivered}
use Rattle.fabric_sim.specs.declared.delivered.Delivered.TheVariants.{Answered}
use Rattle.fabric_sim.specs.declared.fabric_fault.FabricFault.{FabricFault}
use Rattle.fabric_sim.specs.declared.flight.Flight.{Flight}
use Rattle.fabric_sim.specs.Simulation.{Simulation, port_of}
use Rattle.fabric_sim.specs.Flights.{flight_with}
use Rattle.fabric_sim.specs.Delivery.{after_deliver}
use Rattle.sweep.specs.Sweep.{Sweep, started}
use Rattle.sm_manager.specs.Manager.{Manager}
use Rattle.lft_blocks.specs.Planning.{Planning}
use Rattle.sm_manager.specs.declared.fault.ManagerFault.{ManagerFault}
use Rattle.sm_manager.specs.PlanFaults.{number_fault, or_else, plan_fault}
use Rattle.sm_manager.specs.Writing.{phases_by, write_fault_with}
use Rattle.manager_laws.specs.Scene.{Deliver, Lose, Repeat}
use Rattle.manager_laws.specs.Managing.{Managing, ManagerEvent, Around, Begin, Write, Take, Send, Hear, TimeOut, Raise, Merge}
use Rattle.manager_laws.specs.Managing.{CanBe, after_manager_event}
use Rattle.manager_laws.specs.Sets.{IsOwnSet, KeepsPlan}
use Rattle.manager_laws.specs.WritingPings.{AreNoSweeps, BeginsNoSweep}
use Rattle.manager_laws.specs.Written.{AllKeep, Keeps}
use Rattle.manager_laws.proofs.Lists.{all_tested}
use Rattle.manager_laws.proofs.RunParts.{along_tested}

-- each Set that an agent takes is one of its own: by a test -------------------------------------------------------------

-- what a delivery brings to an agent is answered
abbrev pub is_answered : Result Delivered FabricFault → Bool
is_answered (Ok (Answered serial)) = true
is_answered result = false

abbrev is_same : List ℕ → List ℕ → Bool
is_same [] [] = true
is_same [] (y ∷ ys) = false
is_same (x ∷ xs) [] = false
is_same (x ∷ xs) (y ∷ ys) = x == y && is_same xs ys

are_same : (xs ys : List ℕ) → is_same xs ys ≡ true → xs ≡ ys
are_same [] [] e = refl
are_same [] (y ∷ ys) e = absurd (cc)
are_same (x ∷ xs) [] e = absurd (cc)
are_same (x ∷ xs) (y ∷ ys) e =
    let parts = and_parts (x == y) (is_same xs ys) e in
    ap (λ z. z ∷ xs) (eqb-true x y parts.0) ∙ ap (λ zs. y ∷ zs) (are_same xs ys parts.1)

abbrev leads_to : Option NodePort → NodePort → Bool
leads_to None at = false
leads_to (Some end) at = is_same_port end at

abbrev asks_as : Step → List ℕ → Bool
asks_as t packet =
    number_in attribute_id packet == t.attribute && (number_in attribute_modifier packet == t.modifier && is_same (bytes_in attribute_data packet) t.payload)

module _ (f : Fabric) (seat at : NodePort) (packet : List ℕ) where
  abbrev is_step : Step → Bool
  is_step t = leads_to (directed_end f seat t.path) at && asks_as t packet

  abbrev is_in_steps : List Step → Bool
  is_in_steps [] = false
  is_in_steps (t ∷ later) = is_step t || is_in_steps later

  abbrev is_in_phases : List Phase → Bool
  is_in_phases [] = false
  is_in_phases (p ∷ later) = is_in_steps p.steps || is_in_phases later

  record InSteps (steps : List Step) : Type 0 where
    step : Step
    there : Contains steps step
    is : is_step step ≡ true

  in_steps : (steps : List Step) → is_in_steps steps ≡ true → InSteps steps
  in_steps [] e = absurd (cc)
  in_steps (t ∷ later) e =
      elim (is_step t) as (λ b. is_step t ≡ b → (b || is_in_steps later) ≡ true → InSteps (t ∷ later)) [
        | true ↦ λ is k. record { step = t; there = contains_here t later; is = is }
        | false ↦ λ is k. let rest = in_steps later k in record { step = rest.step; there = contains_later t rest.step later rest.there; is = rest.is }
      ] refl e

  record InPhases (phases : List Phase) : Type 0 where
    phase : Phase
    there : Contains phases phase
    of_it : InSteps phase.steps

  in_phases : (phases : List Phase) → is_in_phases phases ≡ true → InPhases phases
  in_phases [] e = absurd (cc)
  in_phases (p ∷ later) e =
      elim (is_in_steps p.steps) as (λ b. is_in_steps p.steps ≡ b → (b || is_in_phases later) ≡ true → InPhases (p ∷ later)) [
        | true ↦ λ is k. record { phase = p; there = contains_here p later; of_it = in_steps p.steps is }
        | false ↦ λ is k. let rest = in_phases later k in
            record { phase = rest.phase; there = contains_later p rest.phase later rest.there; of_it = rest.of_it }
      ] refl e

  leads_there : (o : Option NodePort) → leads_to o at ≡ true → o ≡ Some at
  leads_there None e = absurd (cc)
  leads_there (Some end) e = ap (λ p. Some p) (same_port-is end at e)

  pub own_by : (phases : List Phase) → is_in_phases phases ≡ true → IsOwnSet f seat phases at packet
  own_by phases e =
      let found = in_phases phases e in
      let t = found.of_it.step in
      let one = and_parts (leads_to (directed_end f seat t.path) at) (asks_as t packet) found.of_it.is in
      let two =
      and_parts (number_in attribute_id packet == t.attribute)
      (number_in attribute_modifier packet == t.modifier && is_same (bytes_in attribute_data packet) t.payload) one.1 in
      let three = and_parts (number_in attribute_modifier packet == t.modifier) (is_same (bytes_in attribute_data packet) t.payload) two.1 in
      record {
        phase = found.phase;
        there = found.there;
        step = t;
        in_phase = found.of_it.there;
        leads = leads_there (directed_end f seat t.path) one.0;
        attribute = eqb-true (number_in attribute_id packet) t.attribute two.0;
        modifier = eqb-true (number_in attribute_modifier packet) t.modifier three.0;
        payload = are_same (bytes_in attribute_data packet) t.payload three.1;
      }

module _ (plan : PlanValue) (f : Fabric) (seat : NodePort) (phases : List Phase) where
  abbrev is_own : Option Flight → Bool
  is_own None = true
  is_own (Some flight) = is_in_phases f seat (port_of flight.whereabouts) flight.packet.bytes phases

  -- a delivery that no agent answers, or of a step of these phases where it leads to
  abbrev pub is_kept : Simulation → ℕ → Bool
  is_kept s serial = not (is_answered (after_deliver s serial).result) || is_own (flight_with s.flights serial)

  pub delivery_keeps : (s : Simulation) (serial : ℕ) → is_kept s serial ≡ true → KeepsPlan plan (IsOwnSet f seat phases) s (Deliver serial)
  delivery_keeps s serial e at a packet takes =
      let answers : is_answered (after_deliver s serial).result ≡ true = ap is_answered takes.result in
      let own : is_own (flight_with s.flights serial) ≡ true =
      sym (ap (λ t. not t || is_own (flight_with s.flights serial)) answers) ∙ e in
      let its : is_in_phases f seat (port_of takes.flight.whereabouts) takes.flight.packet.bytes phases ≡ true = sym (ap is_own takes.waits) ∙ own in
      let known : is_in_phases f seat at packet phases ≡ true =
      sym (ap (λ p. is_in_phases f seat p takes.flight.packet.bytes phases) takes.waits_at ∙ ap (λ bytes. is_in_phases f seat at bytes phases) takes.bytes)
      ∙ its in
      inl (own_by f seat at packet phases known)

  abbrev event_kept : Managing → ManagerEvent → Bool
  event_kept w (Around (Deliver serial)) = is_kept w.scene.fabric serial
  event_kept w Write = false
  event_kept w event = true

  abbrev pub are_kept : List ManagerEvent → Managing → Bool
  are_kept [] w = true
  are_kept (event ∷ events) w = event_kept w event && are_kept events (after_manager_event w event)

  event_keeps : (w : Managing) (event : ManagerEvent) → event_kept w event ≡ true → Keeps plan (IsOwnSet f seat phases) w event
  event_keeps w (Around (Deliver serial)) e = delivery_keeps w.scene.fabric serial e
  event_keeps w Write e = absurd (cc)
  event_keeps w event e = tt

  pub all_keep : (events : List ManagerEvent) (w : Managing) → are_kept events w ≡ true → AllKeep plan (IsOwnSet f seat phases) events w
  all_keep [] w e = tt
  all_keep (event ∷ events) w e =
      let parts = and_parts (event_kept w event) (are_kept events (after_manager_event w event)) e in
      (event_keeps w event parts.0, all_keep events (after_manager_event w event) parts.1)

-- what happens, but for what another manager sends --------------------------------------------------------------------------

-- packets are delivered, lost and copied, the manager's are given out, sent and given to it, and its requests time out
abbrev pub is_plain : ManagerEvent → Bool
is_plain (Around (Deliver serial)) = true
is_plain (Around (Lose serial)) = true
is_plain (Around (Repeat serial)) = true
is_plain Take = true
is_plain (Send which) = true
is_plain (Hear which) = true
is_plain (TimeOut transaction) = true
is_plain event = false

plain_can_be : (seat : NodePort) (event : ManagerEvent) → is_plain event ≡ true → CanBe seat event
plain_can_be seat (Around (Deliver serial)) e = (tt, tt)
plain_can_be seat (Around (Lose serial)) e = (tt, tt)
plain_can_be seat (Around (Repeat serial)) e = (tt, tt)
plain_can_be seat Take e = tt
plain_can_be seat (Send which) e = tt
plain_can_be seat (Hear which) e = tt
plain_can_be seat (TimeOut transaction) e = tt
plain_can_be seat event e = absurd (cc)

pub all_can_be : (seat : NodePort) (events : List ManagerEvent) → list_all is_plain events ≡ true → AllByRecursion (CanBe seat) events
all_can_be seat = all_tested (CanBe seat) is_plain (plain_can_be seat)

-- no sweep begins, no floor is raised, and no facts are merged
abbrev pub begins_none : ManagerEvent → Bool
begins_none Begin = false
begins_none (Raise floor) = false
begins_none (Merge floor sightings) = false
begins_none event = true

no_sweep : (w : Managing) (event : ManagerEvent) → begins_none event ≡ true → BeginsNoSweep w event
no_sweep w Begin e = absurd (cc)
no_sweep w (Raise floor) e = absurd (cc)
no_sweep w (Merge floor sightings) e = absurd (cc)
no_sweep w event e = tt

pub no_sweeps : (events : List ManagerEvent) (w : Managing) → list_all begins_none events ≡ true → AreNoSweeps events w
no_sweeps = along_tested BeginsNoSweep begins_none no_sweep

-- what reports tell in turn ----------------------------------------------------------------------------------------------

abbrev pub one : Key → Value → Key × Cell Value
one key value = (key, Known 1 value)

-- merged one after the other
abbrev pub merged_with : Facts → List Sightings → Facts
merged_with facts [] = facts
merged_with facts (told ∷ later) = merged_with (merge facts (view told)) later

abbrev pub joined_told : Sightings → List Sightings → Sightings
joined_told all [] = all
joined_told all (told ∷ later) = joined_told (all ++ told) later

pub one_view : (all : Sightings) (later : List Sightings) → merged_with (view all) later ≡ view (joined_told all later)
one_view all [] = refl
one_view all (told ∷ later) = ap (λ x. merged_with x later) (sym (view_of_both 1 1 all told)) ∙ one_view (all ++ told) later

-- what a manager writes by what it knows -------------------------------------------------------------------------------------

abbrev pub sweep_in : Option Sweep → Sweep
sweep_in None = started 1 1 1 false
sweep_in (Some s) = s

pub sweep_there : (o : Option Sweep) → is_some o ≡ true → o ≡ Some (sweep_in o)
sweep_there None e = absurd (cc)
sweep_there (Some s) e = refl

-- what a manager would write by a planning and a sweep, if it knew these cells
abbrev pub phases_with : Planning → Manager → Option Sweep → Cells → List Phase
phases_with planning m None c = []
phases_with planning m (Some s) c = phases_of (plan_of planning.rule planning.lmc c) (planned_tree planning c) c s m.standing.guid m.port

abbrev pub fault_with : Planning → Manager → Option Sweep → Cells → Option ManagerFault
fault_with planning m o c =
    or_else (write_fault_with m o) (or_else (plan_fault planning.lmc c) (number_fault (m.counter + most_steps c)))

pub same_phases : (m : Manager) (o : Option Sweep) → phases_by m o ≡ phases_with m.planning m o (cells_of m.store)
same_phases m None = refl
same_phases m (Some s) = refl

-- on the fabric of the examples -----------------------------------------------------------------------------------------

-- LIDs in pairs, up and down
abbrev pub in_pairs : Planning
in_pairs = record { lmc = 1; rule = up_and_down; multicast = false }

-- what its agents tell, in the order of the requests, where they hold these LIDs
abbrev pub told_with : ℕ → ℕ → ℕ → List Sightings
told_with first switch last =
    (one (NodeKey 16) (Kind ChannelAdapter 1) ∷ one (PortGuid 16 1) (Guid 17) ∷ [])
    ∷ (one (PortKey 16 1) (Up true) ∷ one (Claim 16 1) (Lid first) ∷ [])
    ∷ (one (NodeKey 32) (Kind Switch 2) ∷ one (PortGuid 32 0) (Guid 32) ∷ one (Link 32 1) (Peer 16 1) ∷ one (Link 16 1) (Peer 32 1) ∷ [])
    ∷ (one (Cap 32) (Count 64) ∷ [])
    ∷ (one (PortKey 32 0) (Up true) ∷ one (Claim 32 0) (Lid switch) ∷ [])
    ∷ (one (PortKey 32 1) (Up true) ∷ one (Claim 32 1) (Lid 0) ∷ [])
    ∷ (one (PortKey 32 2) (Up true) ∷ one (Claim 32 2) (Lid 0) ∷ [])
    ∷ (one (NodeKey 48) (Kind ChannelAdapter 1) ∷ one (PortGuid 48 1) (Guid 49) ∷ one (Link 48 1) (Peer 32 2) ∷ one (Link 32 2) (Peer 48 1) ∷ [])
    ∷ (one (PortKey 48 1) (Up true) ∷ one (Claim 48 1) (Lid last) ∷ []) ∷ []

abbrev pub told_by_agents : List Sightings
told_by_agents = told_with 0 0 0
