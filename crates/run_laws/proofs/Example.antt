-- A run with one manager that brings a subnet up: on an adapter at a switch, to which another adapter is wired. LIDs
-- come in pairs, and a request is copied and lost.
use Rattle.std.proofs.Common.{◌≡◌, ℕ, zero, suc, ◌+◌, ◌&&◌, Bool, true, List, [], ◌∷◌, refl, sym, ap, ◌∙◌, subst, arith}
use Rattle.std.proofs.lemmas.Bool.{and_parts}
use Rattle.std.proofs.lemmas.Option.{same_Some}
use Rattle.std.specs.Prelude.{Option, Some, None, map, max, slice_get}
use Rattle.fabric_model.specs.declared.cable.NodePort.{NodePort}
use Rattle.smp_bytes.specs.Field.{with_bytes}
use Rattle.node_agents.specs.Agent.{fresh_agent}
use Rattle.node_agents.specs.Answers.{after_answer, get_of, set_of}
use Rattle.node_agents.specs.PortInfo.{changed_port}
use Rattle.schedule_file.specs.Resolve.{SeatCommand}
use Rattle.schedule_file.specs.declared.command.Ask.TheVariants as ask
use Rattle.schedule_file.specs.declared.command.Command.TheVariants as command
use Rattle.schedule_file.specs.declared.command.Fate.TheVariants as fate
use Rattle.schedule_file.specs.declared.command.Which.TheVariants.{Last, Serial}
use Rattle.fact_store.specs.View.{cells_of}
use Rattle.subnet_view.specs.Reading.{Cells}
use Rattle.lft_blocks.specs.Rule.{up_and_down}
use Rattle.lft_blocks.specs.Plan.{PlanValue, plan_of}
use Rattle.plan_steps.specs.Phase.{Phase}
use Rattle.fabric_sim.specs.Simulation.{Simulation, fabric_of}
use Rattle.fabric_sim.specs.Changes.{after_inject, cabled_at, after_lose, after_repeat}
use Rattle.fabric_sim.specs.Delivery.{after_deliver}
use Rattle.fabric_sim.specs.PacketOutcome.{outcome_of}
use Rattle.sm_manager.specs.Manager.{Manager, new_manager, after_begin_sweep}
use Rattle.sm_manager.specs.declared.fault.ManagerFault.{ManagerFault}
use Rattle.sm_manager.specs.PlanFaults.{writing_fault}
use Rattle.sm_manager.specs.Writing.{begun_with, is_written, phases_by, after_write_steps}
use Rattle.manager_laws.specs.Sets.{IsOwnSet, OwnSets}
use Rattle.manager_laws.proofs.Computed.{delivery_keeps, in_pairs, is_kept}
use Rattle.manager_laws.proofs.Computed.{sweep_in, told_by_agents}
use Rattle.manager_laws.proofs.NewManagers.{HasSwept, by_known, cells_by, may_begin, may_write, phases_so, phases_then, sweep_is, sweeper}
use Rattle.manager_laws.proofs.ExampleFabric.{distinct_by, is_alone, nodes, port, with_own_seat}
use Rattle.manager_laws.proofs.Generations.{nothing_newest}
use Rattle.schedule_run.specs.Commands.{after_ask_line, after_commands, after_packet_line}
use Rattle.schedule_run.specs.Delivery.{after_hand_up, after_step, after_take_and_send}
use Rattle.schedule_run.specs.World.{SeatedValue, WorldValue, after_manager_call, after_send}
use Rattle.run_laws.specs.OneManager.{BringsUpAlone, KeepsLines, KeepsStep, KeepsSteps, SomeRunOfOne, after_first, at_end, at_first_steps, at_writing, first_serial}
use Rattle.run_laws.proofs.WrittenLines.{written_lines_tell}
use Rattle.sm_state.specs.declared.conduct.Conduct.TheVariants.{Plain}

-- the world ------------------------------------------------------------------------------------------------------

abbrev seated_with : Manager → SeatedValue
seated_with m = record { name = 65 ∷ []; at = port 0 1; manager = m }

abbrev world_with : Simulation → Manager → WorldValue
world_with fabric m = record { fabric = fabric; managers = seated_with m ∷ []; deciders = []; time = 0 }

abbrev new : Manager
new = new_manager 17 1 0 Plain in_pairs

abbrev world : WorldValue
world = world_with with_own_seat new

manager_in : List SeatedValue → Manager
manager_in [] = new
manager_in (s ∷ later) = s.manager

-- a manager of this name at this port alone
abbrev seated_as : List ℕ × NodePort → Manager → SeatedValue
seated_as x m = record { name = x.0; at = x.1; manager = m }

alone : (ms : List SeatedValue) → map {B = List ℕ × NodePort} (λ (s : SeatedValue). (s.name, s.at)) ms ≡ (65 ∷ [], port 0 1) ∷ [] → ms
    ≡ seated_with (manager_in ms) ∷ []
unfolding manager_in
alone [] e = absurd (cc)
alone (s ∷ []) e =
    let pair : ◌≡◌ {A = List ℕ × NodePort} (s.name, s.at) (65 ∷ [], port 0 1) =
    same_Some (s.name, s.at) (65 ∷ [], port 0 1) (ap (λ (xs : List (List ℕ × NodePort)). slice_get xs 0) e) in
    ap (λ (x : List ℕ × NodePort). seated_as x s.manager ∷ []) pair
alone (s ∷ other ∷ ms) e = absurd (cc)

-- its sweep --------------------------------------------------------------------------------------------------------

abbrev between : List SeatCommand
between = command.Packet Last fate.Repeat ∷ command.Packet (Serial 0) fate.Lose ∷ command.Drain 60 ∷ []

-- the manager as it is when a sweep of a generation has begun
abbrev sweeping : ℕ → Manager
sweeping generation = sweeper 17 Plain in_pairs generation

abbrev begun : WorldValue
begun = (after_send (world_with with_own_seat (sweeping 1)) 0).now

begins : (after_ask_line world 0 ask.Sweep).now ≡ begun
unfolding after_ask_line
begins =
    ap (λ (o : Option ManagerFault). (after_manager_call (λ now. after_send now 0) world 0 (seated_with new) o (after_begin_sweep new)).now)
    (may_begin 17 Plain in_pairs)
    ∙ ap (λ n. (after_send (world_with with_own_seat (sweeping (max (n + 1) 1))) 0).now) nothing_newest

abbrev swept_world : WorldValue
swept_world = (after_commands nodes begun between).now

abbrev swept : Manager
swept = manager_in swept_world.managers

at_is : at_writing nodes world between ≡ swept_world
at_is = ap (λ (w : WorldValue). (after_commands nodes w between).now) begins

alone_then : swept_world.managers ≡ seated_with swept ∷ []
unfolding after_send after_packet_line after_take_and_send after_hand_up after_step manager_in
    cabled_at fresh_agent after_inject after_lose after_repeat after_deliver outcome_of after_answer get_of set_of changed_port with_bytes
alone_then = alone swept_world.managers refl

none_then : swept_world.deciders ≡ []
unfolding after_send after_packet_line after_take_and_send after_hand_up after_step manager_in
    cabled_at fresh_agent after_inject after_lose after_repeat after_deliver outcome_of after_answer get_of set_of changed_port with_bytes
none_then = refl

no_time : swept_world.time ≡ 0
unfolding after_send after_packet_line after_take_and_send after_hand_up after_step manager_in
    cabled_at fresh_agent after_inject after_lose after_repeat after_deliver outcome_of after_answer get_of set_of changed_port with_bytes
no_time = refl

-- it was told this by the agents
has_swept : HasSwept in_pairs told_by_agents swept
unfolding after_send after_packet_line after_take_and_send after_hand_up after_step manager_in
    cabled_at fresh_agent after_inject after_lose after_repeat after_deliver outcome_of after_answer get_of set_of changed_port with_bytes
has_swept = record { whole = record { done = refl; answered = refl; near = refl }; swept = refl; planning_is = refl; store_is = refl; no_fault = refl }

abbrev cells : Cells
cells = cells_by told_by_agents

-- its writing ---------------------------------------------------------------------------------------------------

abbrev after : List SeatCommand
after = command.Drain 80 ∷ []

abbrev phases : List Phase
phases = phases_then in_pairs told_by_agents swept

may_write_then : writing_fault swept ≡ None
may_write_then = may_write in_pairs told_by_agents swept has_swept

-- the line `write` of a world with one manager, which is not refused
write_line : (fabric : Simulation) (m : Manager) (ps : List Phase) → writing_fault m ≡ None → phases_by m m.sweep ≡ ps
    → (after_ask_line (world_with fabric m) 0 ask.Write).now ≡ (after_send (world_with fabric (begun_with m ps)) 0).now
unfolding after_ask_line
write_line fabric m ps none are =
    ap (λ (o : Option ManagerFault). (after_manager_call (λ now. after_send now 0) (world_with fabric m) 0 (seated_with m) o (after_write_steps m)).now) none
    ∙ ap (λ (x : List Phase). (after_send (world_with fabric (begun_with m x)) 0).now) are

as_world : (w : WorldValue) (m : Manager) → w.managers ≡ seated_with m ∷ [] → w.deciders ≡ [] → w.time ≡ 0 → w ≡ world_with w.fabric m
as_world w m e none begin = λ i. record { fabric = w.fabric; managers = e i; deciders = none i; time = begin i }

-- the world when the first steps are sent
abbrev writing : WorldValue
writing = (after_send (world_with swept_world.fabric (begun_with swept phases)) 0).now

its_phases : phases_by swept swept.sweep ≡ phases
its_phases = phases_so in_pairs told_by_agents swept has_swept

writes : (after_ask_line swept_world 0 ask.Write).now ≡ writing
writes =
    ap (λ (w : WorldValue). (after_ask_line w 0 ask.Write).now) (as_world swept_world swept alone_then none_then no_time)
    ∙ write_line swept_world.fabric swept phases may_write_then its_phases

abbrev written_world : WorldValue
written_world = (after_commands nodes writing after).now

abbrev writer : Manager
writer = manager_in written_world.managers

alone_at_end : written_world.managers ≡ seated_with writer ∷ []
unfolding after_send after_packet_line after_take_and_send after_hand_up after_step manager_in
    cabled_at fresh_agent after_inject after_lose after_repeat after_deliver outcome_of after_answer get_of set_of changed_port with_bytes
alone_at_end = alone written_world.managers refl

is_written_then : is_written writer ≡ true
unfolding after_send after_packet_line after_take_and_send after_hand_up after_step manager_in
    cabled_at fresh_agent after_inject after_lose after_repeat after_deliver outcome_of after_answer get_of set_of changed_port with_bytes
is_written_then = refl

-- each Set that an agent takes is one of its own: by a test
-- -------------------------------------------------------------

module _ (plan : PlanValue) (phases : List Phase) where
  abbrev own : OwnSets
  own = IsOwnSet (fabric_of with_own_seat) (port 0 1) phases

  abbrev is_step_kept : Simulation → Option ℕ → Bool
  is_step_kept fabric None = true
  is_step_kept fabric (Some serial) = is_kept plan (fabric_of with_own_seat) (port 0 1) phases fabric serial

  abbrev are_steps_kept : WorldValue → ℕ → Bool
  are_steps_kept w zero = true
  are_steps_kept w (suc most) = is_step_kept w.fabric (first_serial w) && are_steps_kept (after_first w) most

  step_keeps : (fabric : Simulation) (o : Option ℕ) → is_step_kept fabric o ≡ true → KeepsStep plan own fabric o
  step_keeps fabric None e = tt
  step_keeps fabric (Some serial) e = delivery_keeps plan (fabric_of with_own_seat) (port 0 1) phases fabric serial e

  steps_keep : (w : WorldValue) (most : ℕ) → are_steps_kept w most ≡ true → KeepsSteps plan own w most
  steps_keep w zero e = tt
  steps_keep w (suc most) e =
      let parts = and_parts (is_step_kept w.fabric (first_serial w)) (are_steps_kept (after_first w) most) e in
      (step_keeps w.fabric (first_serial w) parts.0, steps_keep (after_first w) most parts.1)

kept : are_steps_kept (plan_of up_and_down 1 cells) phases writing 80 ≡ true
unfolding after_send after_packet_line after_take_and_send after_hand_up after_step manager_in
    cabled_at fresh_agent after_inject after_lose after_repeat after_deliver outcome_of after_answer get_of set_of changed_port with_bytes
kept = refl

-- the run ---------------------------------------------------------------------------------------------------------

first_steps : at_first_steps nodes world between ≡ writing
first_steps = ap (λ (w : WorldValue). (after_ask_line w 0 ask.Write).now) at_is ∙ writes

keeps : KeepsLines (plan_of swept.planning.rule swept.planning.lmc (cells_of swept.store))
    (IsOwnSet (fabric_of with_own_seat) (port 0 1) (phases_by swept swept.sweep))
    nodes (at_first_steps nodes world between) after
keeps =
    subst (λ (x : WorldValue). KeepsLines (plan_of swept.planning.rule swept.planning.lmc (cells_of swept.store))
    (IsOwnSet (fabric_of with_own_seat) (port 0 1) (phases_by swept swept.sweep)) nodes x after) (sym first_steps)
    (by_known in_pairs told_by_agents swept has_swept
    (λ plan ps. KeepsLines plan (IsOwnSet (fabric_of with_own_seat) (port 0 1) ps) nodes writing after)
    (steps_keep (plan_of up_and_down 1 cells) phases writing 80 kept, tt))

at_end_alone : (at_end nodes world between after).managers ≡ seated_with writer ∷ []
at_end_alone = ap (λ (w : WorldValue). (after_commands nodes w after).now.managers) first_steps ∙ alone_at_end

brings_up : BringsUpAlone nodes world (seated_with new) between after
unfolding cabled_at fresh_agent
brings_up =
    record {
      port_guid = 17;
      priority = 0;
      conduct = Plain;
      planning = in_pairs;
      few = omega arith;
      only = refl;
      none_decides = refl;
      fabric = is_alone;
      no_packets = refl;
      distinct = distinct_by (fabric_of with_own_seat) refl;
      seat = refl;
      between_lines = (tt, (tt, (tt, tt)));
      after_lines = (tt, tt);
      swept = swept;
      only_then = ap (λ (w : WorldValue). w.managers) at_is ∙ alone_then;
      sweep = sweep_in swept.sweep;
      is_last = sweep_is in_pairs told_by_agents swept has_swept;
      whole = has_swept.whole;
      begins = may_write_then;
      keeps = keeps;
      writer = writer;
      only_at_end = at_end_alone;
      written = (written_lines_tell (at_end nodes world between after) 0 (seated_with writer) (ap (λ (ms : List SeatedValue). slice_get ms 0) at_end_alone)).1
          is_written_then;
    }

pub some_run_of_one : SomeRunOfOne
some_run_of_one = record { nodes = nodes; world = world; seated = seated_with new; between = between; after = after; brings_up = brings_up }
