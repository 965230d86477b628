-- A sweep that has every answer: on an adapter, a switch with a loop in its third port, and an adapter that has a port
-- without a cable and at its other port a manager, which is asked for SMInfo.
use Rattle.std.proofs.Common.{◌≡◌, ℕ, ◌+◌, ◌*◌, ◌^◌, Bool, true, false, List, [], ◌∷◌, ◌++◌, replicate, refl, arith}
use Rattle.std.proofs.lemmas.List.Elements.{All-from_recursion}
use Rattle.std.specs.Prelude.{All, flat_map}
use Rattle.smp_bytes.specs.Field.{with_bytes}
use Rattle.topo_file.specs.declared.node.Node.{Node}
use Rattle.node_agents.specs.Agent.{fresh_agent, after_set_seat}
use Rattle.node_agents.specs.Answers.{after_answer, get_of, set_of}
use Rattle.node_agents.specs.PortInfo.{changed_port}
use Rattle.fabric_sim.specs.Simulation.{Simulation, IsSimulation, fabric_of}
use Rattle.fabric_sim.specs.Build.{uncabled}
use Rattle.fabric_sim.specs.Delivery.{after_deliver}
use Rattle.fabric_sim.specs.PacketOutcome.{outcome_of}
use Rattle.fabric_sim.specs.Changes.{changed_at, after_inject, after_lose, cabled_at}
use Rattle.fabric_sim.proofs.Built.{uncabled_is}
use Rattle.fabric_sim.proofs.Invariants.{seated_is}
use Rattle.fabric_sim.proofs.Recabled.{joined_is}
use Rattle.sweep.specs.Sweep.{started}
use Rattle.manager_laws.specs.Scene as scene
use Rattle.manager_laws.specs.Scene.{Answer, Lose}
use Rattle.manager_laws.specs.Truth.{AreGuidsDistinct}
use Rattle.manager_laws.specs.Sweeping.{Sweeping, SweepEvent, Around, Ask, Send, Hear, TimeOut, Begins, CanBe, after_sweep_events}
use Rattle.manager_laws.specs.Complete.{IsWhole, SomeManagerIsSilent, SomeSweepIsWhole}
use Rattle.manager_laws.proofs.BringUpEvents.{deliveries, there_and_back}
use Rattle.manager_laws.proofs.ExampleFabric.{are_nodes, distinct_by, nodes_with, port}
use Rattle.manager_laws.proofs.Lists.{all_append, all_tested}

-- the fabric -------------------------------------------------------------------------------------------------

abbrev nodes : List Node
nodes = nodes_with 3 2

abbrev linked : Simulation
linked = cabled_at (cabled_at (cabled_at (uncabled nodes 0) (port 0 1) (port 1 1)) (port 1 2) (port 2 1)) (port 1 3) (port 1 3)

abbrev with_own_seat : Simulation
with_own_seat = changed_at linked (port 0 1) after_set_seat

abbrev network : Simulation
network = changed_at with_own_seat (port 2 1) after_set_seat

is_linked : IsSimulation linked
unfolding cabled_at fresh_agent
is_linked =
    let none = uncabled_is nodes 0 (omega arith) (are_nodes 3 2 (omega arith) (omega arith) (omega arith) (omega arith)) (omega arith) in
    let one = joined_is (uncabled nodes 0) (port 0 1) (port 1 1) none refl refl refl refl in
    let two = joined_is (cabled_at (uncabled nodes 0) (port 0 1) (port 1 1)) (port 1 2) (port 2 1) one refl refl refl refl in
    joined_is (cabled_at (cabled_at (uncabled nodes 0) (port 0 1) (port 1 1)) (port 1 2) (port 2 1)) (port 1 3) (port 1 3) two refl refl refl refl

is_network : IsSimulation network
unfolding cabled_at fresh_agent
is_network = seated_is with_own_seat (port 2 1) (seated_is linked (port 0 1) is_linked refl refl) refl refl

distinct : AreGuidsDistinct (fabric_of network)
unfolding cabled_at fresh_agent
distinct = distinct_by (fabric_of network) refl

-- the sweep ---------------------------------------------------------------------------------------------------

abbrev beginning : Sweeping
beginning = record { scene = record { fabric = network; handed = [] }; seat = port 0 1; sweep = started 1 1 0 false; asked = []; reports = [] }

begins : Begins beginning 1 0
unfolding cabled_at fresh_agent
begins =
    record {
      quiet = record {
        fabric = is_network;
        flights = refl;
        handed = refl;
      };
      distinct = distinct;
      seat = refl;
      generation = (omega arith, omega arith);
      first = omega arith;
      keeps = false;
      sweep = refl;
      asked = refl;
      reports = refl;
    }

abbrev trip : ℕ → ℕ → List SweepEvent
trip number hops = Ask ∷ Send number ∷ there_and_back Around hops (2 * number) (Hear number ∷ [])

-- the requests to agents by their numbers, with the lengths of their paths
abbrev trips : List (ℕ × ℕ)
trips = (0, 0) ∷ (1, 0) ∷ (2, 1) ∷ (3, 1) ∷ (4, 1) ∷ (5, 1) ∷ (6, 1) ∷ (7, 1) ∷ (8, 2) ∷ (9, 2) ∷ (10, 2) ∷ []

-- the last request is handed up to the other manager, which answers it
abbrev manager_answers : SweepEvent
manager_answers = Around (scene.Send (port 2 1) (Answer 11 0 (replicate 64 0)))

abbrev asked : List SweepEvent
asked = flat_map (λ t. trip t.0 t.1) trips ++ Ask ∷ Send 11 ∷ deliveries Around 2 22

abbrev answered : List SweepEvent
answered = deliveries Around 2 23 ++ Hear 12 ∷ []

abbrev events : List SweepEvent
events = asked ++ manager_answers ∷ answered

-- whatever happens can be, but for what is sent
abbrev sends_nothing : SweepEvent → Bool
sends_nothing (Around (scene.Send seat sending)) = false
sends_nothing (Around (scene.Emit at sending)) = false
sends_nothing event = true

silent_can : (event : SweepEvent) → sends_nothing event ≡ true → CanBe event
silent_can (Around (scene.Send seat sending)) e = absurd (cc)
silent_can (Around (scene.Emit at sending)) e = absurd (cc)
silent_can event e = tt

can_be : All CanBe events
can_be =
    All-from_recursion CanBe events
    (all_append CanBe asked (manager_answers ∷ answered) (all_tested CanBe sends_nothing silent_can asked refl)
    ((omega arith, refl), all_tested CanBe sends_nothing silent_can answered refl))

whole : IsWhole (after_sweep_events events beginning).sweep
unfolding cabled_at fresh_agent after_inject after_deliver outcome_of after_answer get_of set_of changed_port with_bytes
whole = record { done = refl; answered = refl; near = refl }

pub some_sweep_is_whole : SomeSweepIsWhole
some_sweep_is_whole =
    record { sweeping = beginning; generation = 1; first = 0; events = events; begins = begins; can_be = can_be; whole = whole }

-- a manager that is silent ------------------------------------------------------------------------------------

-- the last request is lost, and given up
abbrev gives_up : List SweepEvent
gives_up = Ask ∷ Send 11 ∷ Around (Lose 22) ∷ TimeOut (2 ^ 32 + 11) ∷ []

abbrev silent_events : List SweepEvent
silent_events = flat_map (λ t. trip t.0 t.1) trips ++ gives_up

silent_can_be : All CanBe silent_events
silent_can_be =
    All-from_recursion CanBe silent_events (all_tested CanBe sends_nothing silent_can silent_events refl)

whole_but_for_it : IsWhole (after_sweep_events silent_events beginning).sweep
unfolding cabled_at fresh_agent after_inject after_deliver after_lose outcome_of after_answer get_of set_of changed_port with_bytes
whole_but_for_it = record { done = refl; answered = refl; near = refl }

it_is_silent : (after_sweep_events silent_events beginning).sweep.silent_managers ≡ 1
unfolding cabled_at fresh_agent after_inject after_deliver after_lose outcome_of after_answer get_of set_of changed_port with_bytes
it_is_silent = refl

pub some_manager_is_silent : SomeManagerIsSilent
some_manager_is_silent =
    record {
      some = record {
        sweeping = beginning;
        generation = 1;
        first = 0;
        events = silent_events;
        begins = begins;
        can_be = silent_can_be;
        whole = whole_but_for_it;
      };
      silent = it_is_silent;
    }
