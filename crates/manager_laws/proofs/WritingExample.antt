-- A manager that brings a subnet up: on an adapter at a switch, to which another adapter is wired, with another manager at it. LIDs come in pairs, a
-- request is lost and sent again, and copied.
use Rattle.std.proofs.Common.{◌≡◌, ◌≢◌, ℕ, true, List, [], ◌∷◌, ◌++◌}
use Rattle.std.proofs.Common.{refl, sym, ap, ◌∙◌, subst, arith}
use Rattle.std.proofs.lemmas.List.Elements.{All-from_recursion}
use Rattle.std.specs.Prelude.{None}
use Rattle.std.specs.List.{AllByRecursion}
use Rattle.fabric_model.specs.declared.cable.NodePort.{NodePort}
use Rattle.smp_bytes.specs.Field.{with_bytes}
use Rattle.node_agents.specs.Agent.{fresh_agent}
use Rattle.node_agents.specs.Answers.{after_answer, get_of, set_of}
use Rattle.node_agents.specs.PortInfo.{changed_port}
use Rattle.reply_facts.specs.Report.{Sightings}
use Rattle.lft_blocks.specs.Rule.{up_and_down}
use Rattle.lft_blocks.specs.Plan.{plan_of}
use Rattle.plan_steps.specs.Phase.{Phase}
use Rattle.fabric_sim.specs.Simulation.{fabric_of}
use Rattle.fabric_sim.specs.Changes.{after_inject, cabled_at, after_lose, after_repeat}
use Rattle.fabric_sim.specs.Delivery.{after_deliver}
use Rattle.fabric_sim.specs.PacketOutcome.{outcome_of}
use Rattle.sm_manager.specs.PlanFaults.{writing_fault}
use Rattle.sm_manager.specs.Writing.{begun_with, is_written}
use Rattle.manager_laws.proofs.Lists.{all_append}
use Rattle.manager_laws.specs.Managing.{Managing, ManagerEvent, Around, Begin, Write, Take, Send, Hear}
use Rattle.manager_laws.specs.Managing.{CanBe, Starts, after_manager_event, after_manager_events}
use Rattle.manager_laws.specs.OwnSetsTaken.{SomeSetsAreAnswered}
use Rattle.manager_laws.specs.WritingPings.{BringsUp, SomeManagerBringsUp}
use Rattle.manager_laws.specs.Written.{AllKeep, at_writing, own_sets, plan_at}
use Rattle.manager_laws.proofs.Generations.{nothing_found}
use Rattle.manager_laws.proofs.Computed.{all_can_be, all_keep, are_kept, in_pairs, no_sweeps}
use Rattle.manager_laws.proofs.Computed.{sweep_in, told_by_agents}
use Rattle.manager_laws.proofs.NewManagers.{HasSwept, begun, cells_by, keeps, may_begin, may_write, new_at, new_starts, phases_then, sweep_is, sweeper, writes}
use Rattle.manager_laws.proofs.BringUpEvents as bring_up
use Rattle.manager_laws.proofs.own_sets.InTime.{answered_in_time}
use Rattle.manager_laws.proofs.ExampleFabric.{bare, distinct_by, is_bare, port}
use Rattle.sm_state.specs.declared.conduct.Conduct.TheVariants.{Plain}

-- the manager, and its sweep ------------------------------------------------------------------------------------

abbrev beginning : Managing
beginning = new_at 17 Plain in_pairs bare 0

starts : Starts beginning
unfolding cabled_at fresh_agent
starts = new_starts 17 Plain in_pairs bare 0 is_bare refl (distinct_by (fabric_of bare) refl) refl (omega arith)

-- as it is when its sweep has begun
abbrev sweeping : Managing
sweeping = record beginning { manager = sweeper 17 Plain in_pairs 1 }

-- a request is given out, and sent
abbrev sends : ℕ → List ManagerEvent
sends number = Take ∷ Send number ∷ []

abbrev between : List ManagerEvent
between = bring_up.between Around sends Send Hear

abbrev swept : Managing
swept = after_manager_events between sweeping

-- it was told nothing by the other manager
abbrev replies : List Sightings
replies = told_by_agents ++ [] ∷ []

has_swept : HasSwept in_pairs replies swept.manager
unfolding cabled_at fresh_agent after_inject after_lose after_repeat after_deliver outcome_of after_answer get_of set_of changed_port with_bytes
has_swept = record { whole = record { done = refl; answered = refl; near = refl }; swept = refl; planning_is = refl; store_is = refl; no_fault = refl }

-- its writing ---------------------------------------------------------------------------------------------------

abbrev phases : List Phase
phases = phases_then in_pairs replies swept.manager

-- the manager as it is when its writing has begun
abbrev writing : Managing
writing = record swept { manager = begun_with swept.manager phases }

abbrev after : List ManagerEvent
after = bring_up.after Around sends Send Hear

abbrev written : Managing
written = after_manager_events after writing

is_written_then : is_written written.manager ≡ true
unfolding cabled_at fresh_agent after_inject after_lose after_repeat after_deliver outcome_of after_answer get_of set_of changed_port with_bytes
is_written_then = refl

kept : are_kept (plan_of up_and_down 1 (cells_by replies)) (fabric_of bare) (port 0 1) phases after writing ≡ true
unfolding cabled_at fresh_agent after_inject after_lose after_repeat after_deliver outcome_of after_answer get_of set_of changed_port with_bytes
kept = refl

-- the run ---------------------------------------------------------------------------------------------------------

between_can : AllByRecursion (CanBe (port 0 1)) between
between_can =
    all_append (CanBe (port 0 1)) (bring_up.to_agents Around sends Send Hear)
    (bring_up.answers_it Around sends Send Hear ∷ bring_up.answered Around sends Send Hear)
    (all_can_be (port 0 1) (bring_up.to_agents Around sends Send Hear) refl)
    (((omega arith, refl), elsewhere), all_can_be (port 0 1) (bring_up.answered Around sends Send Hear) refl)
  where
    elsewhere : port 2 1 ≢ port 0 1
    elsewhere e = let same : 2 ≡ 0 = ap (λ (p : NodePort). p.node) e in omega (arith, same)

at_is : at_writing beginning [] between ≡ swept
at_is = ap (after_manager_events between) (begun 17 Plain in_pairs bare 0)

kept_then : AllKeep (plan_at swept) (own_sets beginning swept) after (after_manager_event swept Write)
kept_then =
    keeps in_pairs replies swept has_swept beginning after
    (all_keep (plan_of up_and_down 1 (cells_by replies)) (fabric_of bare) (port 0 1) phases after writing kept)

brings_up : BringsUp beginning [] between after
brings_up =
    record {
      planned = record {
        writes = record {
          run = record {
            starts = starts;
            before_can = All-from_recursion (CanBe (port 0 1)) [] tt;
            between_can = All-from_recursion (CanBe (port 0 1)) between between_can;
            after_can = All-from_recursion (CanBe (port 0 1)) after (all_can_be (port 0 1) after refl);
            sweeps_first = tt;
            sweep_begins = may_begin 17 Plain in_pairs;
            writing_begins = subst (λ (x : Managing). writing_fault x.manager ≡ None) (sym at_is) (may_write in_pairs replies swept.manager has_swept);
            keep = subst (λ (x : Managing). AllKeep (plan_at x) (own_sets beginning x) after (after_manager_event x Write)) (sym at_is) kept_then;
          };
          knew_nothing = nothing_found;
          alone = no_sweeps between (after_manager_event beginning Begin) refl;
        };
        sweep = sweep_in swept.manager.sweep;
        is_last = ap (λ (x : Managing). x.manager.sweep) at_is ∙ sweep_is in_pairs replies swept.manager has_swept;
        whole = has_swept.whole;
      };
      written = subst (λ (x : Managing). is_written x.manager ≡ true)
          (sym (ap (λ (x : Managing). after_manager_events after (after_manager_event x Write)) at_is
          ∙ ap (after_manager_events after) (writes in_pairs replies swept has_swept)))
          is_written_then;
    }

pub some_manager_brings_up : SomeManagerBringsUp
some_manager_brings_up =
    record {
      run = record {
        managing = beginning;
        port_guid = 17;
        port = 1;
        priority = 0;
        conduct = Plain;
        planning = in_pairs;
        new = refl;
        before = [];
        between = between;
        after = after;
      };
      brings_up = brings_up;
    }

-- nothing times out in it
pub some_sets_are_answered : SomeSetsAreAnswered
unfolding some_manager_brings_up
some_sets_are_answered = record { some = some_manager_brings_up; answered = answered_in_time beginning [] between after brings_up refl }
