-- A manager that decides by itself and brings a subnet up: that of `some_process_serves`, told packets and the time.
use Rattle.std.proofs.Common.{◌≡◌, ◌≢◌, ℕ, Bool, true, false, List, [], ◌∷◌, ◌++◌}
use Rattle.std.proofs.Common.{refl, sym, ap, ◌∙◌, subst, arith}
use Rattle.std.proofs.lemmas.Bool.{and_parts}
use Rattle.std.specs.Prelude.{None, Some, Option, is_none, max, not, if◌then◌else◌, slice_get, ◌+◌, ◌&&◌}
use Rattle.std.specs.List.{AllByRecursion, list_all}
use Rattle.fabric_model.specs.declared.cable.NodePort.{NodePort}
use Rattle.fabric_model.specs.Cables.{is_same_port}
use Rattle.smp_bytes.specs.Field.{with_bytes}
use Rattle.fact_store.specs.View.{Facts, cells_of, no_facts}
use Rattle.fact_store.proofs.Held.{raised_none}
use Rattle.node_agents.specs.Agent.{fresh_agent}
use Rattle.node_agents.specs.Answers.{after_answer, get_of, set_of}
use Rattle.node_agents.specs.PortInfo.{changed_port}
use Rattle.reply_facts.specs.Report.{Sightings}
use Rattle.subnet_view.specs.Reading.{Cells}
use Rattle.lft_blocks.specs.Planning.{Planning}
use Rattle.lft_blocks.specs.Rule.{up_and_down}
use Rattle.lft_blocks.specs.Plan.{PlanValue, plan_of}
use Rattle.plan_steps.specs.Phase.{Phase}
use Rattle.fabric_sim.specs.Simulation.{fabric_of}
use Rattle.fabric_sim.specs.Changes.{after_inject, cabled_at, after_lose, after_repeat}
use Rattle.fabric_sim.specs.Delivery.{after_deliver}
use Rattle.fabric_sim.specs.PacketOutcome.{outcome_of}
use Rattle.sm_state.specs.declared.conduct.Conduct.TheVariants.{Live}
use Rattle.sm_manager.specs.Manager.{Manager, after_begin_sweep, begin_fault, emptied, new_manager}
use Rattle.sm_manager.specs.PlanFaults.{plan_fault}
use Rattle.sm_manager.specs.Writing.{after_write_steps, begun_with, is_written, phases_by}
use Rattle.sm_manager.specs.declared.fault.ManagerFault.{ManagerFault}
use Rattle.sm_policy.specs.declared.timing.Timing.{Timing}
use Rattle.request_window.specs.declared.limits.Limits.{Limits}
use Rattle.acting_manager.specs.Acting.{Acting, caught_up, new_acting, noted}
use Rattle.acting_manager.specs.Acts.{acted, acted_in, done_by, is_whole, judged_on, judging_of, left_in, noted_as}
use Rattle.acting_manager.specs.Acts.{rival_seen, swept_with, writing_on}
use Rattle.acting_manager.specs.Planned.{compared, planned}
use Rattle.acting_manager.specs.Heard.{heard}
use Rattle.acting_manager.specs.declared.note.Note.TheVariants.{Refused, Swept, Writes}
use Rattle.acting_manager.specs.Reads.{no_reads}
use Rattle.sm_policy.specs.Judged as judging
use Rattle.sm_policy.specs.Judged.{anew, cause_of, failed}
use Rattle.sm_policy.specs.declared.write_cause.WriteCause.TheVariants.{New}
use Rattle.sm_policy.specs.Policy.{new_policy}
use Rattle.sm_policy.specs.Resting as resting
use Rattle.sm_policy.specs.Swept as sweeps
use Rattle.sm_policy.specs.declared.act.Act.{Act}
use Rattle.sm_policy.specs.declared.act.Act.TheVariants.{Judge, Sweep, Write}
use Rattle.sm_policy.specs.declared.activity.Activity.{Activity}
use Rattle.sm_policy.specs.declared.activity.Activity.TheVariants.{Sweeps}
use Rattle.acting_manager.specs.Working.{acted_if_idle, all_overdue, given_away, is_idle, sent, stopped, told_time, worked}
use Rattle.acting_manager.specs.Working.Told.{Time}
use Rattle.manager_laws.specs.Scene.{Handed, Deliver, Lose, Repeat, Send as SendFrom, Emit}
use Rattle.manager_laws.specs.Managing.{Managing, Starts}
use Rattle.manager_laws.proofs.Lists.{all_append, all_tested}
use Rattle.manager_laws.specs.Sets.{IsOwnSet}
use Rattle.manager_laws.specs.Written.{own_sets, plan_at}
use Rattle.manager_laws.proofs.Computed.{delivery_keeps, in_pairs, is_kept, sweep_in, told_by_agents}
use Rattle.manager_laws.proofs.NewManagers.{HasSwept, by_known, cells_by, known, may_begin, may_write, new_at, new_starts, phases_so}
use Rattle.manager_laws.proofs.NewManagers.{phases_then, sweep_is, sweeper}
use Rattle.manager_laws.proofs.Generations.{nothing_newest}
use Rattle.manager_laws.proofs.BringUpEvents as bring_up
use Rattle.manager_laws.proofs.ExampleFabric.{bare, distinct_by, is_bare, port}
use Rattle.program_laws.specs.Deciding.{Around, CanDecide, Deciding, DecidingEvent, Hear, Send, Tell, after_deciding_event}
use Rattle.program_laws.specs.Deciding.{after_deciding_events, deciding_at, hearing_at}
use Rattle.program_laws.specs.ManagedPings.{AllKeepManaged, BringsUpManaged, KeepsManaged, SomeManagerDecides, managed_at_writing}
use Rattle.program_laws.specs.ManagedWritings.{begins_writing, does_write, managing_of}
use Rattle.program_laws.proofs.managed.Calm.{caught, sends as out_of}

-- the manager, and what it begins with ------------------------------------------------------------------------

abbrev pub timing : Timing
timing = record { every = 10000; poll = 1000; is_strict = true }

-- one request is out at a time
abbrev pub limits : Limits
limits = record { outstanding = 1; tries = 4; timeout = 500 }

abbrev pub around : Managing
around = new_at 17 (Live 1) in_pairs bare 0

abbrev pub beginning : Deciding
beginning = deciding_at around timing limits 0

abbrev starts : Starts around
unfolding cabled_at fresh_agent
starts = new_starts 17 (Live 1) in_pairs bare 0 is_bare refl (distinct_by (fabric_of bare) refl) refl (omega arith)

-- what is printed once it is so, and has caught up
abbrev printed_by : Deciding → Acting → Deciding
printed_by d a = record d { acting = given_away (sent (caught_up a)); printed = d.printed ++ (sent (caught_up a)).ready }

-- it sweeps -------------------------------------------------------------------------------------------------------

abbrev me : Facts → Manager
me facts = record (new_manager 17 1 0 (Live 1) in_pairs) { store = facts }

-- as it is when its policy has decided to sweep, if its facts are these
abbrev to_sweep : Facts → Acting
to_sweep facts =
    record (new_acting (me facts) timing limits 0) { time = 1; policy = resting.sweeping 1 (new_policy timing); newest = 1 }

-- as it is once a sweep was asked for, with this fault, and left this manager
abbrev asked : Option ManagerFault → Manager → Acting
asked fault m =
    noted_as (is_none fault) Sweep (record (to_sweep no_facts) {
      manager = m;
      reads = no_reads;
      policy = if is_none fault then (to_sweep no_facts).policy else failed 1 (to_sweep no_facts).policy;
    })

-- as it is when its sweep has begun
abbrev pub sweeping : Deciding
sweeping = printed_by beginning (asked None (sweeper 17 (Live 1) in_pairs 1))

pub begun : after_deciding_event beginning (Tell 1 Time) ≡ sweeping
begun =
    ap (λ (f : Facts). printed_by beginning (swept_with (begin_fault (me f)) (to_sweep f)))
    (sym (raised_none 1 1 [] no_facts refl (omega arith)))
    ∙ ap (λ o. printed_by beginning (asked o (if is_none o then after_begin_sweep (me no_facts) else me no_facts))) (may_begin 17 (Live 1) in_pairs)
    ∙ ap (λ n. printed_by beginning (asked None (sweeper 17 (Live 1) in_pairs (max (n + 1) 1)))) nothing_newest

abbrev sends : ℕ → List DecidingEvent
sends number = Send number ∷ []

abbrev hears : ℕ → DecidingEvent
hears which = Hear 2 which

-- all that happens until the last answer is there
abbrev pub between : List DecidingEvent
between =
    bring_up.to_agents Around sends Send hears
    ++ bring_up.answers_it Around sends Send hears ∷ bring_up.deliveries Around 2 22

abbrev pub swept : Deciding
swept = after_deciding_events between sweeping

-- it judges and writes ----------------------------------------------------------------------------------------------

-- it was told nothing by the other manager
abbrev pub replies : List Sightings
replies = told_by_agents ++ [] ∷ []

module _ (d : Deciding) where
  -- whether there is such a packet, handed up at the seat
  abbrev pub is_there : Option Handed → Bool
  is_there None = false
  is_there (Some h) = is_same_port h.at d.seat

  -- as it is when it has taken the packet; as before if there is none
  abbrev pub told_with : Option Handed → Acting
  told_with None = d.acting
  told_with (Some h) = heard h.packet.bytes (Some h.packet.slid) (told_time 2 d.acting)

  -- what is printed once it is so
  abbrev printing : Acting → Deciding
  printing a = record d { acting = given_away a; printed = d.printed ++ a.ready }

  heard_so : (o : Option Handed) → is_there o ≡ true → hearing_at 2 o d ≡ printing (worked (told_with o))
  heard_so None e = absurd (cc)
  heard_so (Some h) e = ap (λ b. if b then printing (worked (told_with (Some h))) else d) e

-- as it is when its policy has decided what is done after its sweep
abbrev pub after_sweep : Acting → Acting
after_sweep a =
    record (noted (Swept (is_whole a.manager)) a) {
      policy = (sweeps.swept a.time (is_whole a.manager) (rival_seen a.manager) a.policy).policy;
    }

-- its sweep is over, and it judges its plan
pub record Judges (a : Acting) : Type 0 where
  pub idle : is_idle a.window ≡ true
  pub stays : a.is_leaving ≡ false
  pub is_sweep : a.policy.activity ≡ Sweeps
  pub judges : (sweeps.swept a.time (is_whole a.manager) (rival_seen a.manager) a.policy).act ≡ Judge

pub acted_so : (a : Acting) → Judges a → acted_if_idle a ≡ caught_up (judging_of (planned (after_sweep a).manager) (after_sweep a))
acted_so a h =
    ap (λ b. if b then caught_up (acted a) else a) h.idle
    ∙ ap (λ b. caught_up (if b then left_in a.policy.activity a else acted_in a.policy.activity a)) h.stays
    ∙ ap (λ (what : Activity). caught_up (acted_in what a)) h.is_sweep
    ∙ ap (λ (what : Act). caught_up (done_by what (after_sweep a))) h.judges

-- as it is when it has taken the last answer, before it decides
abbrev pub over : Acting
over = caught_up (all_overdue (stopped (caught_up (told_with swept (slice_get swept.scene.handed 11)))))

pub judges : Judges over
unfolding cabled_at fresh_agent after_inject after_lose after_repeat after_deliver outcome_of after_answer get_of set_of changed_port with_bytes
judges = record { idle = refl; stays = refl; is_sweep = refl; judges = refl }

pub last_there : is_there swept (slice_get swept.scene.handed 11) ≡ true
unfolding cabled_at fresh_agent after_inject after_lose after_repeat after_deliver outcome_of after_answer get_of set_of changed_port with_bytes
last_there = refl

-- as it is when it judges its plan
abbrev to_judge : Acting
to_judge = after_sweep over

has_swept : HasSwept in_pairs replies to_judge.manager
unfolding cabled_at fresh_agent after_inject after_lose after_repeat after_deliver outcome_of after_answer get_of set_of changed_port with_bytes
has_swept = record { whole = record { done = refl; answered = refl; near = refl }; swept = refl; planning_is = refl; store_is = refl; no_fault = refl }

abbrev pub plan : PlanValue
plan = plan_of up_and_down 1 (cells_by replies)

-- what is planned by such a planning, if this is known
abbrev planned_by : Planning → Cells → Option PlanValue
planned_by planning cells =
    if is_none (plan_fault planning.lmc cells) then Some (plan_of planning.rule planning.lmc cells) else None

plan_is : (m : Manager) → HasSwept in_pairs replies m → planned m ≡ Some plan
plan_is m h i = planned_by (h.planning_is i) (known in_pairs replies m h i)

module _ (a : Acting) where
  -- one that wrote no plan yet writes any
  judged_new : a.kept ≡ None → judging_of (Some plan) a ≡ writing_on New plan (record a { policy = (anew a.policy).policy })
  judged_new is i =
      judged_on (Some plan) (cause_of (compared (is i) plan) a.reads.ports a.policy)
      (judging.judged a.time (compared (is i) plan) a.reads.ports a.policy) a

  -- as it is when it writes these phases
  abbrev writing_so : List Phase → Acting
  writing_so phases =
      noted (Writes New) (record a {
        manager = begun_with a.manager phases;
        policy = judging.writing a.time true a.policy;
        kept = Some plan;
        is_void = false;
      })

  -- as it is once a writing was asked for, with this fault
  abbrev asked_to_write : Option ManagerFault → Acting
  asked_to_write fault =
      noted (if is_none fault then Writes New else Refused Write) (record a {
        manager = if is_none fault then after_write_steps a.manager else a.manager;
        policy = judging.writing a.time (is_none fault) a.policy;
        kept = if is_none fault then Some plan else a.kept;
        is_void = false;
      })

  written_so : HasSwept in_pairs replies a.manager → writing_on New plan a ≡ writing_so (phases_then in_pairs replies a.manager)
  written_so h =
      ap asked_to_write (may_write in_pairs replies a.manager h) ∙ ap writing_so (phases_so in_pairs replies a.manager h)

-- as it is when its writing was asked for
abbrev pub to_write : Acting
to_write = writing_so (record to_judge { policy = (anew to_judge.policy).policy }) (phases_then in_pairs replies to_judge.manager)

-- as it is when its writing has begun
abbrev pub writing : Deciding
writing = printed_by swept to_write

heard_last : after_deciding_event swept (Hear 2 11) ≡ printed_by swept (judging_of (planned to_judge.manager) to_judge)
heard_last =
    heard_so swept (slice_get swept.scene.handed 11) last_there ∙ ap (λ (a : Acting). printing swept (sent a)) (acted_so over judges)

kept_none : to_judge.kept ≡ None
unfolding cabled_at fresh_agent after_inject after_lose after_repeat after_deliver outcome_of after_answer get_of set_of changed_port with_bytes
kept_none = refl

pub writes : after_deciding_event swept (Hear 2 11) ≡ writing
writes =
    heard_last
    ∙ ap (λ (p : Option PlanValue). printed_by swept (judging_of p to_judge)) (plan_is to_judge.manager has_swept)
    ∙ ap (printed_by swept) (judged_new to_judge kept_none)
    ∙ ap (printed_by swept) (written_so (record to_judge { policy = (anew to_judge.policy).policy }) has_swept)

abbrev pub after : List DecidingEvent
after = bring_up.after Around sends Send hears

abbrev pub written : Deciding
written = after_deciding_events after writing

pub is_written_then : is_written written.acting.manager ≡ true
unfolding cabled_at fresh_agent after_inject after_lose after_repeat after_deliver outcome_of after_answer get_of set_of changed_port with_bytes
is_written_then = refl

-- its Sets --------------------------------------------------------------------------------------------------------

abbrev phases : List Phase
phases = phases_then in_pairs replies to_judge.manager

-- it begins no other writing, and each Set that an agent takes is one of these phases: by a test
abbrev event_kept : Deciding → DecidingEvent → Bool
event_kept d (Around (Deliver serial)) = is_kept plan (fabric_of bare) (port 0 1) phases d.scene.fabric serial
event_kept d (Around event) = false
event_kept d (Send which) = true
event_kept d event = not (begins_writing d event)

abbrev are_kept : List DecidingEvent → Deciding → Bool
are_kept [] d = true
are_kept (event ∷ events) d = event_kept d event && are_kept events (after_deciding_event d event)

kept : are_kept after writing ≡ true
unfolding cabled_at fresh_agent after_inject after_lose after_repeat after_deliver outcome_of after_answer get_of set_of changed_port with_bytes
kept = refl

-- each of them keeps the plan by these phases
abbrev KeepBy : PlanValue → List Phase → Type 0
KeepBy its_plan steps = AllKeepManaged its_plan (IsOwnSet (fabric_of bare) (port 0 1) steps) after writing

not_true : (b : Bool) → not b ≡ true → b ≡ false
not_true true e = cc
not_true false e = refl

event_keeps : (d : Deciding) (event : DecidingEvent) → event_kept d event ≡ true
    → KeepsManaged plan (IsOwnSet (fabric_of bare) (port 0 1) phases) d event
event_keeps d (Around (Deliver serial)) e = delivery_keeps plan (fabric_of bare) (port 0 1) phases d.scene.fabric serial e
event_keeps d (Around (Lose serial)) e = tt
event_keeps d (Around (Repeat serial)) e = tt
event_keeps d (Around (SendFrom from sending)) e = tt
event_keeps d (Around (Emit at sending)) e = tt
event_keeps d (Send which) e = tt
event_keeps d (Tell time what) e = not_true (begins_writing d (Tell time what)) e
event_keeps d (Hear time which) e = not_true (begins_writing d (Hear time which)) e

all_keep : (events : List DecidingEvent) (d : Deciding) → are_kept events d ≡ true
    → AllKeepManaged plan (IsOwnSet (fabric_of bare) (port 0 1) phases) events d
all_keep [] d e = tt
all_keep (event ∷ events) d e =
    let parts = and_parts (event_kept d event) (are_kept events (after_deciding_event d event)) e in
    (event_keeps d event parts.0, all_keep events (after_deciding_event d event) parts.1)

-- the run ---------------------------------------------------------------------------------------------------------

-- whether the event is possible at any seat
abbrev is_plain : DecidingEvent → Bool
is_plain (Around (Deliver serial)) = true
is_plain (Around (Lose serial)) = true
is_plain (Around (Repeat serial)) = true
is_plain (Hear time which) = true
is_plain (Send which) = true
is_plain event = false

plain_can : (seat : NodePort) (event : DecidingEvent) → is_plain event ≡ true → CanDecide seat event
plain_can seat (Around (SendFrom from sending)) e = absurd (cc)
plain_can seat (Around (Emit at sending)) e = absurd (cc)
plain_can seat (Tell time what) e = absurd (cc)
plain_can seat (Hear time which) e = tt
plain_can seat (Send which) e = tt
plain_can seat event e = (tt, tt)

all_can : (events : List DecidingEvent) → list_all is_plain events ≡ true → AllByRecursion (CanDecide (port 0 1)) events
all_can = all_tested (CanDecide (port 0 1)) is_plain (plain_can (port 0 1))

between_can : AllByRecursion (CanDecide (port 0 1)) between
between_can =
    all_append (CanDecide (port 0 1)) (bring_up.to_agents Around sends Send hears)
    (bring_up.answers_it Around sends Send hears ∷ bring_up.deliveries Around 2 22)
    (all_can (bring_up.to_agents Around sends Send hears) refl)
    (((omega arith, refl), elsewhere), all_can (bring_up.deliveries Around 2 22) refl)
  where
    elsewhere : port 2 1 ≢ port 0 1
    elsewhere e = let same : 2 ≡ 0 = ap (λ (p : NodePort). p.node) e in omega (arith, same)

abbrev pub before : List DecidingEvent
before = Tell 1 Time ∷ between

swept_then : after_deciding_events before beginning ≡ swept
swept_then = ap (after_deciding_events between) begun

pub writing_then : managed_at_writing beginning before (Hear 2 11) ≡ writing
writing_then = ap (λ (d : Deciding). after_deciding_event d (Hear 2 11)) swept_then ∙ writes

finished : (c : Acting) → (sent (caught_up c)).manager ≡ emptied c.manager
finished c = (out_of (caught_up c)).manager ∙ (caught c).manager

its_manager : writing.acting.manager ≡ emptied (begun_with to_judge.manager phases)
its_manager = finished to_write

rested : does_write swept ≡ false
unfolding cabled_at fresh_agent after_inject after_lose after_repeat after_deliver outcome_of after_answer get_of set_of changed_port with_bytes
rested = refl

now_writes : does_write writing ≡ true
unfolding cabled_at fresh_agent after_inject after_lose after_repeat after_deliver outcome_of after_answer get_of set_of changed_port with_bytes
now_writes = refl

begins_one : begins_writing swept (Hear 2 11) ≡ true
begins_one = (λ i. not (rested i) && does_write (writes i)) ∙ now_writes

keeps : AllKeepManaged (plan_at (managing_of writing)) (own_sets (managing_of beginning) (managing_of writing)) after writing
keeps =
    subst (λ (x : Manager). KeepBy (plan_of x.planning.rule x.planning.lmc (cells_of x.store)) (phases_by x x.sweep)) (sym its_manager)
    (by_known in_pairs replies to_judge.manager has_swept KeepBy (all_keep after writing kept))

pub brings_up : BringsUpManaged beginning before (Hear 2 11) after
brings_up =
    record {
      new = record {
        port_guid = 17;
        port = 1;
        priority = 0;
        conduct = Live 1;
        planning = in_pairs;
        timing = timing;
        limits = limits;
        newest = 0;
        few = omega arith;
        acting = refl;
        printed = refl;
      };
      starts = starts;
      before_can = (tt, between_can);
      begins_can = tt;
      after_can = all_can after refl;
      writes = subst (λ (d : Deciding). begins_writing d (Hear 2 11) ≡ true) (sym swept_then) begins_one;
      sweep = sweep_in to_judge.manager.sweep;
      is_last = ap (λ (d : Deciding). d.acting.manager.sweep) writing_then ∙ ap (λ (x : Manager). x.sweep) its_manager
          ∙ sweep_is in_pairs replies to_judge.manager has_swept;
      whole = has_swept.whole;
      keep = subst (λ (d : Deciding). AllKeepManaged (plan_at (managing_of d)) (own_sets (managing_of beginning) (managing_of d)) after d)
          (sym writing_then) keeps;
      written = ap (λ (d : Deciding). is_written (after_deciding_events after d).acting.manager) writing_then ∙ is_written_then;
    }

pub some_manager_decides : SomeManagerDecides
some_manager_decides = record { deciding = beginning; before = before; begins = Hear 2 11; after = after; brings_up = brings_up }
