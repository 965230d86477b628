-- A manager that takes over: on an adapter, at a switch to which another adapter is wired, whose port says that a
-- manager sits there, which is silent. Both adapters and the switch hold LIDs, and the switch a forwarding table.
use Rattle.std.proofs.Common.{◌≡◌, ℕ, zero, suc, ◌+◌, ◌*◌, ◌^◌, ◌<◌, Bool, true, List, [], ◌∷◌, ◌++◌, length, map, replicate, false}
use Rattle.std.proofs.Common.{refl, sym, ap, ◌∙◌, subst, arith}
use Rattle.std.proofs.Math.ListN.{get_or-map}
use Rattle.std.proofs.lemmas.Option.{same_Some}
use Rattle.std.proofs.lemmas.Bool.{and_parts, eq-eqb}
use Rattle.std.proofs.lemmas.List.Elements.{All-from_recursion}
use Rattle.std.specs.Prelude.{Option, Some, None, drop, slice_get, slice_index_or, ◌==◌, ◌&&◌, not}
use Rattle.std.specs.List.{AllByRecursion}
use Rattle.std.specs.Option.{option_map_or}
use Rattle.fabric_model.specs.declared.cable.NodePort.{NodePort}
use Rattle.fabric_model.specs.FabricWalks.{IsJoinedTo}
use Rattle.smp_bytes.specs.Field.{number_in, with_bytes}
use Rattle.smp_bytes.specs.Header.{set}
use Rattle.smp_bytes.specs.Packet.{method}
use Rattle.attr_codec.specs.declared.port_state.PortState.TheVariants.{Down}
use Rattle.node_agents.specs.declared.port.Port.{Port}
use Rattle.node_agents.specs.Agent.{Agent, base_lid_at, fresh_agent, node_of, port_in}
use Rattle.node_agents.specs.Answers.{after_answer, get_of, set_of}
use Rattle.node_agents.specs.PortInfo.{changed_port}
use Rattle.reply_facts.specs.Report.{Sightings}
use Rattle.fact_store.specs.View.{cells_of}
use Rattle.fact_store.proofs.Entries.{cells_of_view}
use Rattle.subnet_view.specs.FabricAgreement.{AgreesOn, Part}
use Rattle.subnet_view.specs.Reading.{Cells}
use Rattle.lid_assign.specs.Lids.{IsNoRoom}
use Rattle.lft_blocks.specs.InForce.{HoldsPlan, HoldsPlanAt}
use Rattle.lft_blocks.specs.Plan.{PlanValue, block_at, plan_of}
use Rattle.plan_steps.specs.Phase.{Phase}
use Rattle.fabric_sim.specs.declared.flight.Flight.{Flight}
use Rattle.fabric_sim.specs.Simulation.{Simulation, fabric_of}
use Rattle.fabric_sim.specs.Flights.{flight_with}
use Rattle.fabric_sim.specs.Delivery.{after_deliver}
use Rattle.fabric_sim.specs.PacketOutcome.{outcome_of}
use Rattle.fabric_sim.specs.Changes.{after_inject, after_lose, cabled_at}
use Rattle.lft_blocks.specs.Planning.{Planning}
use Rattle.lft_blocks.specs.Rule.{up_and_down}
use Rattle.manager_laws.specs.Scene.{Deliver, Lose}
use Rattle.sm_manager.specs.PlanFaults.{writing_fault}
use Rattle.sm_manager.specs.Writing.{begun_with}
use Rattle.manager_laws.specs.Managing.{Managing, ManagerEvent, Around, Begin, Write, Take, Send, Hear, TimeOut}
use Rattle.manager_laws.proofs.Computed.{told_with, all_can_be, all_keep, are_kept, joined_told, no_sweeps}
use Rattle.manager_laws.proofs.Computed.{sweep_in}
use Rattle.manager_laws.proofs.Generations.{nothing_found}
use Rattle.manager_laws.specs.Written.{AllKeep, IsWritingRun, at_writing, own_sets, plan_at}
use Rattle.manager_laws.specs.Claims.{HasLidsOf}
use Rattle.manager_laws.specs.WritingPings.{NewManagersRun}
use Rattle.manager_laws.specs.Takeover.{AllCarry, Carrying, LidsStayAround, SomeManagerTakesOver, SweepsAlone, TakesOver, plan_by_it}
use Rattle.manager_laws.proofs.takeover.Takeover.{found_agrees}
use Rattle.manager_laws.specs.Managing.{CanBe, Starts, after_manager_event, after_manager_events}
use Rattle.manager_laws.proofs.NewManagers.{HasSwept, begun, cells_by, keeps, known, may_begin, may_write, new_at, new_starts, phases_then, sweep_is, sweeper}
use Rattle.manager_laws.proofs.BringUpEvents.{there_and_back}
use Rattle.manager_laws.proofs.ExampleFabric.{port}
use Rattle.manager_laws.proofs.takeover.ExampleFabric.{at_end_ports, distinct, first_agent, is_network, last_agent, network, switch_agent, table}
use Rattle.sm_state.specs.declared.conduct.Conduct.TheVariants.{Plain}

-- the manager, and its sweep ------------------------------------------------------------------------------------

abbrev pub its_planning : Planning
its_planning = record { lmc = 0; rule = up_and_down; multicast = false }

abbrev pub beginning : Managing
beginning = new_at 17 Plain its_planning network 0

pub starts : Starts beginning
unfolding cabled_at fresh_agent
starts = new_starts 17 Plain its_planning network 0 is_network refl distinct refl (omega arith)

-- as it is when its sweep has begun
abbrev sweeping : Managing
sweeping = record beginning { manager = sweeper 17 Plain its_planning 1 }

sweeps_first : after_manager_event beginning Begin ≡ sweeping
sweeps_first = begun 17 Plain its_planning network 0

abbrev trip : ℕ → ℕ → List ManagerEvent
trip number hops = Take ∷ Send number ∷ there_and_back Around hops (2 * number) (Hear number ∷ [])

-- the last request goes to the other manager; it is lost, and given up
abbrev to_manager : List ManagerEvent
to_manager = Take ∷ Send 9 ∷ Around (Lose 18) ∷ TimeOut (2 ^ 32 + 10) ∷ []

abbrev pub between : List ManagerEvent
between =
    trip 0 0 ++ (trip 1 0 ++ (trip 2 1 ++ (trip 3 1 ++ (trip 4 1 ++ (trip 5 1 ++ (trip 6 1 ++ (trip 7 2 ++ (trip 8 2 ++ to_manager))))))))

abbrev pub swept : Managing
swept = after_manager_events between sweeping

-- what it was told
abbrev pub replies : List Sightings
replies = told_with 2 5 7

pub has_swept : HasSwept its_planning replies swept.manager
unfolding cabled_at fresh_agent after_inject after_deliver after_lose outcome_of after_answer get_of set_of changed_port with_bytes
has_swept = record { whole = record { done = refl; answered = refl; near = refl }; swept = refl; planning_is = refl; store_is = refl; no_fault = refl }

abbrev pub all_told : Sightings
all_told = joined_told [] replies

abbrev pub cells : Cells
cells = cells_by replies

pub known_is : cells_of swept.manager.store ≡ cells_of_view all_told
known_is = known its_planning replies swept.manager has_swept

-- the manager at the second adapter did not answer
is_silent : (sweep_in swept.manager.sweep).silent_managers ≡ 1
unfolding cabled_at fresh_agent after_inject after_deliver after_lose outcome_of after_answer get_of set_of changed_port with_bytes
is_silent = refl

-- its plan is what is held ----------------------------------------------------------------------------------------

pub has_room : ¬ (IsNoRoom 0 (cells_of swept.manager.store))
has_room = subst (λ c. ¬ (IsNoRoom 0 c)) (sym known_is) there_is
  where
    there_is : ¬ (IsNoRoom 0 cells)
    there_is e = absurd (cc)

abbrev pub plan : PlanValue
plan = plan_of up_and_down 0 cells

-- the one block of the switch, and none of an adapter
block_here : (b : ℕ) (block : List ℕ) → block_at plan 32 b ≡ Some block → (b ≡ 0) × (block ≡ table)
block_here zero block e = (refl, sym (same_Some _ _ e))
block_here (suc b) block e = absurd (cc)

no_block_first : (b : ℕ) (block : List ℕ) → block_at plan 16 b ≡ Some block → ⊥
no_block_first b block e = cc

no_block_last : (b : ℕ) (block : List ℕ) → block_at plan 48 b ≡ Some block → ⊥
no_block_last b block e = cc

in_table : (xs : List ℕ) (i : ℕ) → i < length xs → slice_get xs i ≡ Some (slice_index_or xs i 255)
in_table [] i less = absurd (omega (arith, less))
in_table (x ∷ xs) zero less = refl
in_table (x ∷ xs) (suc i) less = in_table xs i (omega (arith, less))

holds_first : HoldsPlanAt plan (fabric_of network) (port 0 1) (node_of first_agent)
unfolding cabled_at fresh_agent
holds_first = record { lids = refl; top = λ switch. absurd (cc); blocks = λ b block e. absurd (no_block_first b block e) }

holds_switch : HoldsPlanAt plan (fabric_of network) (port 1 0) (node_of switch_agent)
unfolding cabled_at fresh_agent
holds_switch =
    record {
      lids = refl;
      top = λ switch top e. let same : 7 ≡ top = same_Some _ _ e in omega (arith, same);
      blocks = λ b block e i less.
          let (at_first, is_table) = block_here b block e in
          let same : i ≡ 64 * b + i = omega (arith, at_first) in
          ap (λ (xs : List ℕ). slice_get xs i) is_table ∙ in_table table i (omega (arith, less))
          ∙ ap (λ n. Some (slice_index_or table n 255)) same;
    }

holds_last : HoldsPlanAt plan (fabric_of network) (port 2 1) (node_of last_agent)
unfolding cabled_at fresh_agent
holds_last = record { lids = refl; top = λ switch. absurd (cc); blocks = λ b block e. absurd (no_block_last b block e) }

pub holds_in : (part : Part) → HoldsPlan part plan (fabric_of network)
holds_in part = at_end_ports (λ id p node. HoldsPlanAt plan (fabric_of network) (port id p) node) holds_first holds_switch holds_last part

-- until it writes, no packet that is delivered is a Set, and no LID changes
-- ---------------------------------------------

abbrev is_no_set : Managing → ManagerEvent → Bool
is_no_set w (Around (Deliver n)) = option_map_or (λ (f : Flight). not (number_in method f.packet.bytes == set)) (flight_with w.scene.fabric.flights n) true
is_no_set w event = true

abbrev are_no_sets : List ManagerEvent → Managing → Bool
are_no_sets [] w = true
are_no_sets (event ∷ events) w = is_no_set w event && are_no_sets events (after_manager_event w event)

no_set_carries : (some_plan : PlanValue) (w : Managing) (event : ManagerEvent) → is_no_set w event ≡ true → Carrying some_plan w event
no_set_carries some_plan w (Around (Deliver n)) e =
    λ at a packet takes. absurd (by_flight takes.flight packet takes.bytes takes.method (flight_with w.scene.fabric.flights n) takes.waits e)
  where
    by_flight : (flight : Flight) (packet : List ℕ) → flight.packet.bytes ≡ packet → number_in method packet ≡ set
        → (m : Option Flight) → m ≡ Some flight → option_map_or (λ (f : Flight). not (number_in method f.packet.bytes == set)) m true ≡ true → ⊥
    by_flight flight packet bytes method_is m is h =
        let test : not (number_in method flight.packet.bytes == set) ≡ true =
        ap (λ (o : Option Flight). option_map_or (λ (f : Flight). not (number_in method f.packet.bytes == set)) o true) (sym is) ∙ h in
        let sets : (number_in method flight.packet.bytes == set) ≡ true = eq-eqb _ _ (ap (number_in method) bytes ∙ method_is) in
        cc (sym (ap not sets) ∙ test)
no_set_carries some_plan w event e = tt

no_sets_carry : (some_plan : PlanValue) (events : List ManagerEvent) (w : Managing) → are_no_sets events w ≡ true → AllCarry some_plan events w
no_sets_carry some_plan [] w e = tt
no_sets_carry some_plan (event ∷ events) w e =
    let parts = and_parts (is_no_set w event) (are_no_sets events (after_manager_event w event)) e in
    (no_set_carries some_plan w event parts.0, no_sets_carry some_plan events (after_manager_event w event) parts.1)

between_sets_none : are_no_sets between sweeping ≡ true
unfolding cabled_at fresh_agent after_inject after_deliver after_lose outcome_of after_answer get_of set_of changed_port with_bytes
between_sets_none = refl

-- the LIDs of the ports of all agents
abbrev lids_in : Simulation → List (List ℕ)
lids_in s = map (λ (a : Agent). map (λ (p : Port). p.base_lid) a.ports) s.agents

abbrev lids_after : List ManagerEvent → Managing → List (List (List ℕ))
lids_after [] w = []
lids_after (event ∷ events) w = lids_in (after_manager_event w event).scene.fabric ∷ lids_after events (after_manager_event w event)

lid_read : (s : Simulation) (p : NodePort) → (fabric_of s).base_lid p ≡ slice_index_or (slice_index_or (lids_in s) p.node []) p.port 0
lid_read s p = by_agents s.agents p.node
  where
    by_agents : (xs : List Agent) (id : ℕ) → option_map_or (λ a. base_lid_at a p.port) (slice_get xs id) 0
        ≡ slice_index_or (slice_index_or (map (λ (a : Agent). map (λ (q : Port). q.base_lid) a.ports) xs) id []) p.port 0
    by_agents [] id = refl
    by_agents (a ∷ xs) zero = sym (get_or-map (λ (q : Port). q.base_lid) a.ports p.port (port_in Down))
    by_agents (a ∷ xs) (suc id) = by_agents xs id

same_lids : (f : Simulation) (w : Managing) → lids_in w.scene.fabric ≡ lids_in f → HasLidsOf (fabric_of f) w.scene
same_lids f w e p = lid_read w.scene.fabric p ∙ ap (λ (ls : List (List ℕ)). slice_index_or (slice_index_or ls p.node []) p.port 0) e ∙ sym (lid_read f p)

lids_stay : (f : Simulation) (events : List ManagerEvent) (w : Managing) → lids_after events w ≡ replicate (length events) (lids_in f)
    → LidsStayAround (fabric_of f) events w
lids_stay f [] w e = tt
lids_stay f (event ∷ events) w e = (
  same_lids f (after_manager_event w event) (ap (λ (ls : List (List (List ℕ))). slice_index_or ls 0 []) e),
  lids_stay f events (after_manager_event w event) (ap (λ (ls : List (List (List ℕ))). drop 1 ls) e),
)

between_lids : lids_after between sweeping ≡ replicate (length between) (lids_in network)
unfolding cabled_at fresh_agent after_inject after_deliver after_lose outcome_of after_answer get_of set_of changed_port with_bytes
between_lids = refl

-- its writing: the first step gives its own port the LID that it has
-- ---------------------------------------------------

abbrev phases : List Phase
phases = phases_then its_planning replies swept.manager

-- the manager as it is when its writing by these phases has begun
abbrev writing : Managing
writing = record swept { manager = begun_with swept.manager phases }

abbrev pub after : List ManagerEvent
after = Take ∷ Send 10 ∷ Around (Deliver 19) ∷ Around (Deliver 20) ∷ Hear 9 ∷ []

kept : are_kept plan (fabric_of network) (port 0 1) phases after writing ≡ true
unfolding cabled_at fresh_agent after_inject after_deliver after_lose outcome_of after_answer get_of set_of changed_port with_bytes
kept = refl

-- the takeover ------------------------------------------------------------------------------------------------------

between_can : AllByRecursion (CanBe (port 0 1)) between
between_can = all_can_be (port 0 1) between refl

pub at_is : at_writing beginning [] between ≡ swept
at_is = ap (after_manager_events between) sweeps_first

kept_then : AllKeep (plan_at swept) (own_sets beginning swept) after (after_manager_event swept Write)
kept_then =
    keeps its_planning replies swept has_swept beginning after (all_keep plan (fabric_of network) (port 0 1) phases after writing kept)

run : IsWritingRun beginning [] between after
run =
    record {
      starts = starts;
      before_can = All-from_recursion (CanBe (port 0 1)) [] tt;
      between_can = All-from_recursion (CanBe (port 0 1)) between between_can;
      after_can = All-from_recursion (CanBe (port 0 1)) after (all_can_be (port 0 1) after refl);
      sweeps_first = tt;
      sweep_begins = may_begin 17 Plain its_planning;
      writing_begins = subst (λ (x : Managing). writing_fault x.manager ≡ None) (sym at_is) (may_write its_planning replies swept.manager has_swept);
      keep = subst (λ (x : Managing). AllKeep (plan_at x) (own_sets beginning x) after (after_manager_event x Write)) (sym at_is) kept_then;
    }

pub sweeps : SweepsAlone beginning [] between after
sweeps =
    record {
      planned = record {
        writes = record { run = run; knew_nothing = nothing_found; alone = no_sweeps between (after_manager_event beginning Begin) refl };
        sweep = sweep_in swept.manager.sweep;
        is_last = ap (λ (x : Managing). x.manager.sweep) at_is ∙ sweep_is its_planning replies swept.manager has_swept;
        whole = has_swept.whole;
      };
      lids_before = tt;
      lids_between = subst (LidsStayAround (fabric_of network) between) (sym sweeps_first) (lids_stay network between sweeping between_lids);
    }

-- what it comes to know is as it was
pub agrees : AgreesOn (IsJoinedTo (fabric_of network) (port 0 1)) (cells_of swept.manager.store) (fabric_of network)
agrees =
    subst (λ (x : Managing). AgreesOn (IsJoinedTo (fabric_of network) (port 0 1)) (cells_of x.manager.store) (fabric_of network)) at_is
    (found_agrees beginning [] between after sweeps)

takes_over : TakesOver swept.manager.store beginning [] between after
takes_over =
    record {
      sweeps = sweeps;
      has_room = subst (λ (x : Managing). ¬ (IsNoRoom x.manager.planning.lmc (cells_of swept.manager.store))) (sym at_is)
          (subst (λ (p : Planning). ¬ (IsNoRoom p.lmc (cells_of swept.manager.store))) (sym has_swept.planning_is) has_room);
      agrees = agrees;
      holds = subst (λ (x : Managing). HoldsPlan (IsJoinedTo (fabric_of network) (port 0 1)) (plan_by_it x.manager.planning swept.manager.store)
          (fabric_of network))
          (sym at_is)
          (subst (λ (p : Planning). HoldsPlan (IsJoinedTo (fabric_of network) (port 0 1)) (plan_by_it p swept.manager.store) (fabric_of network))
          (sym has_swept.planning_is)
          (subst (λ c. HoldsPlan (IsJoinedTo (fabric_of network) (port 0 1)) (plan_of up_and_down 0 c) (fabric_of network)) (sym known_is)
          (holds_in (IsJoinedTo (fabric_of network) (port 0 1)))));
    }

-- a new manager comes there
abbrev pub new_run : NewManagersRun
new_run =
    record {
      managing = beginning;
      port_guid = 17;
      port = 1;
      priority = 0;
      conduct = Plain;
      planning = its_planning;
      new = refl;
      before = [];
      between = between;
      after = after;
    }

pub some_manager_takes_over : SomeManagerTakesOver
unfolding takes_over sweeps
some_manager_takes_over =
    record {
      run = new_run;
      held = swept.manager.store;
      takes = record {
        takes = takes_over;
        carry_before = tt;
        carry_between = subst (AllCarry _ between) (sym sweeps_first) (no_sets_carry _ between sweeping between_sets_none);
      };
      silent = omega (arith, is_silent);
    }
