-- A process that brings a subnet up: the manager of `some_manager_brings_up`, told by lines.
use Rattle.std.proofs.Common.{◌≡◌, ◌≢◌, ℕ, ◌+◌, Bool, true, false, List, [], ◌∷◌, ◌++◌}
use Rattle.std.proofs.Common.{refl, sym, ap, ◌∙◌, subst, arith}
use Rattle.std.proofs.lemmas.List.Elements.{All-from_recursion}
use Rattle.std.specs.Prelude.{None, max}
use Rattle.std.specs.List.{AllByRecursion, list_all}
use Rattle.fabric_model.specs.declared.cable.NodePort.{NodePort}
use Rattle.smp_bytes.specs.Field.{with_bytes}
use Rattle.node_agents.specs.Agent.{fresh_agent}
use Rattle.node_agents.specs.Answers.{after_answer, get_of, set_of}
use Rattle.node_agents.specs.PortInfo.{changed_port}
use Rattle.reply_facts.specs.Report.{Sightings}
use Rattle.lft_blocks.specs.Rule.{up_and_down}
use Rattle.lft_blocks.specs.Plan.{PlanValue, plan_of}
use Rattle.plan_steps.specs.Phase.{Phase}
use Rattle.fabric_sim.specs.Simulation.{fabric_of}
use Rattle.fabric_sim.specs.Changes.{after_inject, cabled_at, after_lose, after_repeat}
use Rattle.fabric_sim.specs.Delivery.{after_deliver}
use Rattle.fabric_sim.specs.PacketOutcome.{outcome_of}
use Rattle.schedule_file.specs.declared.command.Ask.TheVariants as ask
use Rattle.sm_manager.specs.Manager.{Manager, new_manager, after_begin_sweep, emptied}
use Rattle.sm_manager.specs.PlanFaults.{writing_fault}
use Rattle.sm_manager.specs.Writing.{after_write_steps, begun_with, is_written}
use Rattle.manager_laws.specs.Scene.{Deliver, Lose, Repeat, Send as SendFrom, Emit}
use Rattle.manager_laws.proofs.Lists.{all_append, all_tested}
use Rattle.manager_laws.specs.Managing.{Managing, Starts}
use Rattle.manager_laws.specs.Sets.{IsOwnSet, OwnSets}
use Rattle.manager_laws.specs.Written.{AllKeep, own_sets, plan_at}
use Rattle.manager_laws.proofs.Generations.{nothing_found, nothing_newest}
use Rattle.manager_laws.proofs.Computed.{all_keep, are_kept, in_pairs}
use Rattle.manager_laws.proofs.Computed.{sweep_in, told_by_agents}
use Rattle.manager_laws.proofs.NewManagers.{HasSwept, by_known, cells_by, may_begin, may_write, new_at, new_starts, phases_so, phases_then, sweep_is, sweeper}
use Rattle.manager_laws.proofs.BringUpEvents as bring_up
use Rattle.manager_laws.proofs.RunParts.{keep_split}
use Rattle.manager_laws.proofs.ExampleFabric.{bare, distinct_by, is_bare, port}
use Rattle.serve_lines.specs.declared.serve_line.ServeLine.TheVariants.{Ask}
use Rattle.serve_run.specs.Served.{asked_with, served}
use Rattle.program_laws.specs.Told.{Who}
use Rattle.program_laws.specs.Live.{CanLive, LiveEvent, Around, Tell, Hear, Send, after_live, events_by, events_of}
use Rattle.program_laws.specs.LivePings.{AllKeepLive, BringsUpLive, SomeProcessServes, TellsNoSweep, all_live, sweep_line, write_line}
use Rattle.program_laws.proofs.serve.Managed.{tell_so}
use Rattle.sm_state.specs.declared.conduct.Conduct.TheVariants.{Live}

-- events that are no lines --------------------------------------------------------------------------------------

abbrev is_silent : LiveEvent → Bool
is_silent (Around (Deliver serial)) = true
is_silent (Around (Lose serial)) = true
is_silent (Around (Repeat serial)) = true
is_silent (Hear which) = true
is_silent (Send which) = true
is_silent event = false

abbrev is_no_line : LiveEvent → Bool
is_no_line (Tell line) = false
is_no_line event = true

silent_can : (seat : NodePort) (event : LiveEvent) → is_silent event ≡ true → CanLive seat event
silent_can seat (Around (SendFrom from sending)) e = absurd (cc)
silent_can seat (Around (Emit at sending)) e = absurd (cc)
silent_can seat (Tell line) e = absurd (cc)
silent_can seat (Hear which) e = tt
silent_can seat (Send which) e = tt
silent_can seat event e = (tt, tt)

all_can : (seat : NodePort) (events : List LiveEvent) → list_all is_silent events ≡ true → AllByRecursion (CanLive seat) events
all_can seat = all_tested (CanLive seat) is_silent (silent_can seat)

tells_none : (event : LiveEvent) → is_no_line event ≡ true → TellsNoSweep event
tells_none (Tell line) e = absurd (cc)
tells_none event e = tt

all_tell_none : (events : List LiveEvent) → list_all is_no_line events ≡ true → AllByRecursion TellsNoSweep events
all_tell_none = all_tested TellsNoSweep is_no_line tells_none

module _ (plan : PlanValue) (own : OwnSets) where
  keep_live : (w : Managing) (events : List LiveEvent) → list_all is_no_line events ≡ true → AllKeep plan own (events_of events w) w
      → AllKeepLive plan own events w
  keep_live w [] e keep = tt
  keep_live w (Around event ∷ events) e keep = (keep.0, keep_live (after_live w (Around event)) events e keep.1)
  keep_live w (Tell line ∷ events) e keep = absurd (cc)
  keep_live w (Hear which ∷ events) e keep = (
    tt,
    keep_live (after_live w (Hear which)) events e
        (keep_split plan own (events_by w (Hear which)) (events_of events (after_live w (Hear which))) w keep).1,
  )
  keep_live w (Send which ∷ events) e keep = (tt, keep_live (after_live w (Send which)) events e keep.1)

-- the process, and its sweep ------------------------------------------------------------------------------------

abbrev me : Manager
me = new_manager 17 1 0 (Live 1) in_pairs

abbrev who : Who
who = record { port_guid = 17; port = 1; priority = 0; conduct = Live 1; planning = in_pairs }

abbrev beginning : Managing
beginning = new_at 17 (Live 1) in_pairs bare 0

starts : Starts beginning
unfolding cabled_at fresh_agent
starts = new_starts 17 (Live 1) in_pairs bare 0 is_bare refl (distinct_by (fabric_of bare) refl) refl (omega arith)

-- a manager whose packets were all given out
abbrev given : Managing → Manager → Managing
given w m = record w { manager = emptied m; out = w.out ++ m.outgoing }

-- the manager as it is when a sweep of a generation has begun
abbrev sweeping : ℕ → Manager
sweeping generation = sweeper 17 (Live 1) in_pairs generation

begun : after_live beginning sweep_line ≡ given beginning (sweeping 1)
unfolding served
begun =
    tell_so beginning (Ask ask.Sweep) tt
    ∙ ap (λ o. given beginning (asked_with me o (after_begin_sweep me)).manager) (may_begin 17 (Live 1) in_pairs)
    ∙ ap (λ n. given beginning (sweeping (max (n + 1) 1))) nothing_newest

abbrev sends : ℕ → List LiveEvent
sends number = Send number ∷ []

abbrev between : List LiveEvent
between = bring_up.between Around sends Send Hear

abbrev swept : Managing
swept = all_live between (given beginning (sweeping 1))

-- it was told nothing by the other manager
abbrev replies : List Sightings
replies = told_by_agents ++ [] ∷ []

has_swept : HasSwept in_pairs replies swept.manager
unfolding cabled_at fresh_agent after_inject after_lose after_repeat after_deliver outcome_of after_answer get_of set_of changed_port with_bytes
has_swept = record { whole = record { done = refl; answered = refl; near = refl }; swept = refl; planning_is = refl; store_is = refl; no_fault = refl }

-- its writing ---------------------------------------------------------------------------------------------------

abbrev phases : List Phase
phases = phases_then in_pairs replies swept.manager

-- the process as it is when `write` was answered
abbrev writing : Managing
writing = given swept (begun_with swept.manager phases)

writes_line : after_live swept write_line ≡ writing
unfolding served
writes_line =
    tell_so swept (Ask ask.Write) tt
    ∙ ap (λ o. given swept (asked_with swept.manager o (after_write_steps swept.manager)).manager) (may_write in_pairs replies swept.manager has_swept)
    ∙ ap (λ (ps : List Phase). given swept (begun_with swept.manager ps)) (phases_so in_pairs replies swept.manager has_swept)

abbrev after : List LiveEvent
after = bring_up.after Around sends Send Hear

abbrev written : Managing
written = all_live after writing

is_written_then : is_written written.manager ≡ true
unfolding cabled_at fresh_agent after_inject after_lose after_repeat after_deliver outcome_of after_answer get_of set_of changed_port with_bytes
is_written_then = refl

kept : are_kept (plan_of up_and_down 1 (cells_by replies)) (fabric_of bare) (port 0 1) phases (events_of after writing) writing ≡ true
unfolding cabled_at fresh_agent after_inject after_lose after_repeat after_deliver outcome_of after_answer get_of set_of changed_port with_bytes
kept = refl

-- the run ---------------------------------------------------------------------------------------------------------

between_can : AllByRecursion (CanLive (port 0 1)) between
between_can =
    all_append (CanLive (port 0 1)) (bring_up.to_agents Around sends Send Hear)
    (bring_up.answers_it Around sends Send Hear ∷ bring_up.answered Around sends Send Hear)
    (all_can (port 0 1) (bring_up.to_agents Around sends Send Hear) refl)
    (((omega arith, refl), elsewhere), all_can (port 0 1) (bring_up.answered Around sends Send Hear) refl)
  where
    elsewhere : port 2 1 ≢ port 0 1
    elsewhere e = let same : 2 ≡ 0 = ap (λ (p : NodePort). p.node) e in omega (arith, same)

at_is : all_live between (after_live beginning sweep_line) ≡ swept
at_is = ap (all_live between) begun

kept_live : AllKeepLive (plan_of up_and_down 1 (cells_by replies)) (IsOwnSet (fabric_of bare) (port 0 1) phases) after writing
kept_live =
    keep_live (plan_of up_and_down 1 (cells_by replies)) (IsOwnSet (fabric_of bare) (port 0 1) phases) writing after refl
    (all_keep (plan_of up_and_down 1 (cells_by replies)) (fabric_of bare) (port 0 1) phases (events_of after writing) writing kept)

kept_then : AllKeepLive (plan_at swept) (own_sets beginning swept) after (after_live swept write_line)
kept_then =
    subst (AllKeepLive (plan_at swept) (own_sets beginning swept) after) (sym writes_line)
    (by_known in_pairs replies swept.manager has_swept (λ plan ps. AllKeepLive plan (IsOwnSet (fabric_of bare) (port 0 1) ps) after writing) kept_live)

brings_up : BringsUpLive who beginning [] between after
brings_up =
    record {
      new = refl;
      starts = starts;
      before_can = All-from_recursion (CanLive (port 0 1)) [] tt;
      between_can = All-from_recursion (CanLive (port 0 1)) between between_can;
      after_can = All-from_recursion (CanLive (port 0 1)) after (all_can (port 0 1) after refl);
      knew_nothing = nothing_found;
      sweep_begins = may_begin 17 (Live 1) in_pairs;
      alone = All-from_recursion TellsNoSweep between (all_tell_none between refl);
      sweep = sweep_in swept.manager.sweep;
      is_last = ap (λ (x : Managing). x.manager.sweep) at_is ∙ sweep_is in_pairs replies swept.manager has_swept;
      whole = has_swept.whole;
      writing_begins = subst (λ (x : Managing). writing_fault x.manager ≡ None) (sym at_is) (may_write in_pairs replies swept.manager has_swept);
      keep = subst (λ (x : Managing). AllKeepLive (plan_at x) (own_sets beginning x) after (after_live x write_line)) (sym at_is) kept_then;
      written = subst (λ (x : Managing). is_written x.manager ≡ true)
          (sym (ap (λ (x : Managing). all_live after (after_live x write_line)) at_is ∙ ap (all_live after) writes_line)) is_written_then;
    }

pub some_process_serves : SomeProcessServes
some_process_serves =
    record { who = who; managing = beginning; before = []; between = between; after = after; brings_up = brings_up }
