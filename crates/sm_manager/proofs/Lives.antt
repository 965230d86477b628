-- A manager's facts are the view of all that it took in.
use Rattle.std.proofs.Common.{◌≡◌, ℕ, Bool, true, false, cond, List, [], ◌∷◌, ◌++◌, refl, sym, ap, ◌∙◌, arith}
use Rattle.std.proofs.lemmas.Bool.{cond_both}
use Rattle.std.proofs.lemmas.List.{append_assoc, append-nil}
use Rattle.std.specs.Prelude.{◌^◌, max, nat_le, Option, Some, None, Result, Ok, Err, is_none}
use Rattle.smp_bytes.specs.Field.{number_in}
use Rattle.smp_bytes.specs.Packet.{fault_of, status, attribute_modifier}
use Rattle.smp_bytes.specs.declared.smp_fault.SmpFault.{SmpFault}
use Rattle.fact_store.specs.Merge.{merge}
use Rattle.reply_facts.specs.Report.{Sightings}
use Rattle.fact_store.specs.Seen.{seen}
use Rattle.fact_store.specs.View.{view, view_at, cells_of, no_facts}
use Rattle.fact_store.proofs.Merges.{at_same_floor, merge_empty, merge_is_commutative}
use Rattle.fact_store.proofs.Views.{members_decide_view, raised_is_merge, view_of_both}
use Rattle.sweep.specs.declared.answer.Answer.{Answer}
use Rattle.sweep.specs.declared.fault.SweepFault.{SweepFault}
use Rattle.sweep.specs.Replies.{judged}
use Rattle.sweep.specs.Sweep.{Sweep, timeout_fault}
use Rattle.plan_steps.specs.Plan.{plan_of}
use Rattle.sm_manager.specs.Manager.{Manager, Writing, new_manager, begin_fault, after_begin_sweep, taken_of}
use Rattle.sm_manager.specs.declared.fault.ManagerFault.TheVariants.{SequenceSpent}
use Rattle.plan_steps.proofs.Reached.{every_packet_arrives}
use Rattle.sm_manager.specs.declared.outgoing.Outgoing.{Outgoing}
use Rattle.sm_manager.specs.declared.pending.Pending.{Pending}
use Rattle.sm_manager.specs.Packets.{Called, refused, done, answered_by, sweep_answered, request_answered, after_request, pending_for, unless_spent, packet_taken, sweep_timed_out, sweep_gave_up, request_gave_up, after_timeout, is_for_sweep, is_info_request}
use Rattle.sm_manager.specs.declared.pending.Purpose.{Purpose}
use Rattle.sm_manager.specs.declared.pending.Purpose.TheVariants as purpose
use Rattle.sm_manager.specs.Election.{after_handover, handed_to, handover_fault, handover_move, heir_way, rediscover_fault, after_rediscover, after_yield, successor_way, yield_fault, poll_fault, poll_way, polled_by, after_poll, after_message}
use Rattle.sm_manager.specs.declared.way.Way.{Way}
use Rattle.sm_manager.specs.SmInfoAnswers.{acknowledged_by, answering, controlled, request_counted, is_control, moved_on, replying, served}
use Rattle.sm_manager.specs.Traps.{represses, repressing}
use Rattle.sm_state.specs.Standing.{moved_to}
use Rattle.sm_manager.specs.PlanFaults.{writing_fault}
use Rattle.sm_manager.specs.ManagerRequests.{counts, no_step_waits, with_number, without_number}
use Rattle.sm_state.specs.declared.event.Event.TheVariants as event
use Rattle.sm_state.specs.declared.event.Message.{Message}
use Rattle.sm_state.specs.declared.transition.Transition.{Transition}
use Rattle.sm_state.specs.Transitions.{status_of, stepped}
use Rattle.sm_manager.specs.Writing.{is_done_by, is_spent, noted, phase_sent, after_step, went_on_with, after_write_steps}
use Rattle.sm_manager.specs.CallLists.{Call, BeginSweep, WriteSteps, Take, Packet, Timeout, Raise, Merge, Poll, Handover, Yield, Rediscover, after_call, after_calls, sightings_if, sightings_of_reply, sightings_of_packet, sightings_of_call, taken_in, floor_in, greatest_floor, KnowsWhatItTookIn, SameTakenInSamePlan}

-- what a call takes in is merged with what was known -------------------------------------------

-- the facts and how it plans stays
pub record Keeps (m after : Manager) : Type 0 where
  pub store : after.store ≡ m.store
  pub planning : after.planning ≡ m.planning

same : (m : Manager) → Keeps m m
same m = record { store = refl; planning = refl }

-- the facts are merged with what these sightings say, and how it plans stays
record Takes (m : Manager) (sightings : Sightings) (after : Manager) : Type 0 where
  store : after.store ≡ merge m.store (view sightings)
  planning : after.planning ≡ m.planning

nothing_taken : (m after : Manager) → Keeps m after → Takes m [] after
nothing_taken m after k = record { store = k.store ∙ sym (merge_is_commutative m.store no_facts ∙ merge_empty m.store); planning = k.planning }

module _ (m : Manager) where
  takes_answer : (bytes : List ℕ) (s : Sweep) (r : Result Answer SweepFault) → Takes m (sightings_if r) (answered_by m s bytes r).manager
  takes_answer bytes s (Ok answer) = record { store = refl; planning = refl }
  takes_answer bytes s (Err why) = nothing_taken m m (same m)

  takes_reply : (bytes : List ℕ) (s : Option Sweep) → Takes m (sightings_of_reply bytes s) (sweep_answered m bytes s).manager
  takes_reply bytes None = nothing_taken m m (same m)
  takes_reply bytes (Some s) = takes_answer bytes s (judged s bytes)

  phase_keeps : (w : Option Writing) → Keeps m (went_on_with m w)
  phase_keeps None = record { store = refl; planning = refl }
  phase_keeps (Some w) =
      cond_both (no_step_waits m.pending) (phase_sent m w) m (λ (x : Manager). Keeps m x) (λ _. record { store = refl; planning = refl }) (λ _. record {
        store =
            refl;
        planning = refl;
      })

over_keeps : (m : Manager) (p : Pending) (was_done : Bool) → Keeps m (after_step m p was_done)
over_keeps m p was_done =
    let w = noted (counts p) was_done m.writing in
    let k = phase_keeps (record m { pending = without_number p.number m.pending; writing = w }) w in
    record { store = k.store; planning = k.planning }

unless_keeps : (m : Manager) (after : Manager) → Keeps m after → Keeps m (unless_spent m after).manager
unless_keeps m after e =
    cond_both (is_spent after) (refused m SequenceSpent) (done after) (λ (x : Called). Keeps m x.manager) (λ _. record {
      store = refl;
      planning =
          refl;
    }) (λ _. e)

telling_keeps : (m : Manager) (to : Option Way) (message : Option Message) → Keeps m (after_message m to message)
telling_keeps m None message = record { store = refl; planning = refl }
telling_keeps m (Some way) None = record { store = refl; planning = refl }
telling_keeps m (Some way) (Some message) = record { store = refl; planning = refl }

pub polling_keeps : (m : Manager) (to : Option Way) → Keeps m (polled_by m to)
polling_keeps m None = record { store = refl; planning = refl }
polling_keeps m (Some way) = record { store = refl; planning = refl }

moving_keeps : (m : Manager) (bytes : List ℕ) (from : Option ℕ) (move : Transition) → Keeps m (moved_on m bytes from move)
moving_keeps m bytes from move =
    let k = telling_keeps (answering (record m { standing = moved_to move.state m.standing }) bytes from (status_of move)) (acknowledged_by bytes from)
    move.message in
    record { store = k.store; planning = k.planning }

module _ (m : Manager) where
  ending_keeps : (p : Pending) (answer : Option ℕ) (why : Purpose) → Keeps m (after_request m p answer why).manager
  ending_keeps p answer purpose.Poll = record { store = refl; planning = refl }
  ending_keeps p answer purpose.Control = record { store = refl; planning = refl }
  ending_keeps p answer (purpose.Step counts) = unless_keeps m _ (over_keeps m p (is_done_by answer))

  answer_keeps : (bytes : List ℕ) (p : Option Pending) → Keeps m (request_answered m bytes p).manager
  answer_keeps bytes None = record { store = refl; planning = refl }
  answer_keeps bytes (Some p) = ending_keeps p (Some (status bytes)) p.purpose

  serving_keeps : (bytes : List ℕ) (from : Option ℕ) → Keeps m (served m bytes from)
  serving_keeps bytes from =
      cond_both (is_control m.standing bytes) (controlled m bytes from) (replying m bytes from) (λ (x : Manager). Keeps m x)
      (λ _. let k = moving_keeps (request_counted m) bytes from (stepped m.standing.conduct m.standing.state (event.Control (number_in attribute_modifier bytes))) in
      record { store = k.store; planning = k.planning })
      (λ _. record { store = refl; planning = refl })

  takes_packet : (bytes : List ℕ) (from : Option ℕ) (why : Option SmpFault) → Takes m (sightings_of_packet m bytes why) (packet_taken m bytes from why).manager
  takes_packet bytes from (Some why) = nothing_taken m m (same m)
  takes_packet bytes from None = by_tests (is_info_request bytes) (represses m bytes) (is_for_sweep bytes)
    where
      by_tests : (a t b : Bool) → Takes m (cond a [] (cond t [] (cond b (sightings_of_reply bytes m.sweep) [])))
          (cond a (unless_spent m (served m bytes from)) (cond t (done (repressing m bytes from))
          (cond b (sweep_answered m bytes m.sweep) (request_answered m bytes (pending_for m bytes))))).manager
      by_tests true t b = nothing_taken m _ (unless_keeps m _ (serving_keeps bytes from))
      by_tests false true b = nothing_taken m _ (record { store = refl; planning = refl })
      by_tests false false true = takes_reply m bytes m.sweep
      by_tests false false false = nothing_taken m _ (answer_keeps bytes (pending_for m bytes))

  sweep_timeout_keeps : (transaction : ℕ) (s : Option Sweep) → Keeps m (sweep_gave_up m transaction s).manager
  sweep_timeout_keeps transaction None = record { store = refl; planning = refl }
  sweep_timeout_keeps transaction (Some s) = by_fault (timeout_fault s transaction)
    where
      by_fault : (why : Option SweepFault) → Keeps m (sweep_timed_out m s transaction why).manager
      by_fault (Some why) = record { store = refl; planning = refl }
      by_fault None = record { store = refl; planning = refl }

  request_timeout_keeps : (p : Option Pending) → Keeps m (request_gave_up m p).manager
  request_timeout_keeps None = record { store = refl; planning = refl }
  request_timeout_keeps (Some p) = ending_keeps p None p.purpose

  pub timeout_keeps : (transaction : ℕ) → Keeps m (after_timeout m transaction).manager
  timeout_keeps transaction =
      cond_both (nat_le (2 ^ 32) transaction) (sweep_gave_up m transaction m.sweep) (request_gave_up m (with_number transaction m.pending))
      (λ (x : Called). Keeps m x.manager)
      (λ _. sweep_timeout_keeps transaction m.sweep) (λ _. request_timeout_keeps (with_number transaction m.pending))

  taking_keeps : (packets : List Outgoing) → Keeps m (taken_of m packets).manager
  taking_keeps [] = record { store = refl; planning = refl }
  taking_keeps (packet ∷ packets) = record { store = refl; planning = refl }

  pub handing_keeps : (way : Option Way) → Keeps m (handed_to m way)
  handing_keeps way =
      let k = telling_keeps (record m { standing = moved_to (handover_move m).state m.standing }) way (handover_move m).message in
      record { store = k.store; planning = k.planning }

  -- so it is with each call
  record TakesIn (call : Call) : Type 0 where
    store : (after_call m call).store ≡ merge m.store (view_at (floor_in call) (sightings_of_call m call))
    planning : (after_call m call).planning ≡ m.planning

  stays : (call : Call) → Keeps m (after_call m call) → Takes m [] (after_call m call)
  stays call k = nothing_taken m (after_call m call) k

  takes : (call : Call) → TakesIn call
  takes BeginSweep =
      let t = stays BeginSweep (cond_both (is_none (begin_fault m)) (after_begin_sweep m) m (λ (x : Manager). Keeps m x) (λ _. record {
        store = refl;
        planning =
            refl;
      }) (λ _. record { store = refl; planning = refl })) in
      record { store = t.store; planning = t.planning }
  takes WriteSteps =
      let t = stays WriteSteps (cond_both (is_none (writing_fault m)) (after_write_steps m) m (λ (x : Manager). Keeps m x) (λ _. record {
        store =
            refl;
        planning = refl;
      }) (λ _. record { store = refl; planning = refl })) in
      record { store = t.store; planning = t.planning }
  takes Take = let t = stays Take (taking_keeps m.outgoing) in record { store = t.store; planning = t.planning }
  takes (Packet bytes from) = let t = takes_packet bytes from (fault_of bytes) in record { store = t.store; planning = t.planning }
  takes (Timeout transaction) = let t = stays (Timeout transaction) (timeout_keeps transaction) in record { store = t.store; planning = t.planning }
  takes (Raise floor) = record { store = raised_is_merge m.store floor; planning = refl }
  takes (Merge floor sightings) = record { store = refl; planning = refl }
  takes (Poll lid) =
      let t = stays (Poll lid) (cond_both (is_none (poll_fault m lid)) (after_poll m lid) m (λ (x : Manager). Keeps m x)
      (λ _. polling_keeps m (poll_way m lid)) (λ _. record { store = refl; planning = refl })) in
      record { store = t.store; planning = t.planning }
  takes Handover =
      let t = stays Handover
      (cond_both (is_none (handover_fault m)) (after_handover m) m (λ (x : Manager). Keeps m x) (λ _. handing_keeps (successor_way m)) (λ _. record {
        store =
            refl;
        planning = refl;
      })) in
      record { store = t.store; planning = t.planning }
  takes Yield =
      let t = stays Yield
      (cond_both (is_none (yield_fault m)) (after_yield m) m (λ (x : Manager). Keeps m x) (λ _. handing_keeps (heir_way m)) (λ _. record {
        store =
            refl;
        planning = refl;
      })) in
      record { store = t.store; planning = t.planning }
  takes Rediscover =
      let t = stays Rediscover (cond_both (is_none (rediscover_fault m)) (after_rediscover m) m (λ (x : Manager). Keeps m x) (λ _. record {
        store = refl;
        planning =
            refl;
      }) (λ _. record { store = refl; planning = refl })) in
      record { store = t.store; planning = t.planning }

  pub takes_call : (call : Call) → (after_call m call).store ≡ merge m.store (view_at (floor_in call) (sightings_of_call m call))
  takes_call call = (takes call).store

  pub planning_stays : (call : Call) → (after_call m call).planning ≡ m.planning
  planning_stays call = (takes call).planning

-- the laws ------------------------------------------------------------------------------------------

-- with what it knew before
knows : (calls : List Call) (m : Manager) (floor : ℕ) (before : Sightings) → m.store ≡ view_at floor before
    → (after_calls calls m).store ≡ view_at (max floor (greatest_floor calls)) (before ++ taken_in calls m)
knows [] m floor before e = e ∙ at_same_floor floor (max floor 1) (seen before) (omega arith) ∙ ap (view_at (max floor 1)) (sym (append-nil before))
knows (call ∷ calls) m floor before e =
    let sightings = before ++ (sightings_of_call m call ++ taken_in calls (after_call m call)) in
    knows calls (after_call m call) (max floor (floor_in call)) (before ++ sightings_of_call m call)
    (takes_call m call ∙ ap (λ x. merge x (view_at (floor_in call) (sightings_of_call m call))) e
    ∙ sym (view_of_both floor (floor_in call) before (sightings_of_call m call)))
    ∙ ap (view_at (max (max floor (floor_in call)) (greatest_floor calls)))
    (append_assoc before (sightings_of_call m call) (taken_in calls (after_call m call)))
    ∙ at_same_floor (max (max floor (floor_in call)) (greatest_floor calls)) (max floor (max (floor_in call) (greatest_floor calls))) (seen sightings)
    (omega arith)

pub planning_of_calls : (calls : List Call) (m : Manager) → (after_calls calls m).planning ≡ m.planning
planning_of_calls [] m = refl
planning_of_calls (call ∷ calls) m = planning_of_calls calls (after_call m call) ∙ planning_stays m call

pub knows_what_it_took_in : KnowsWhatItTookIn
knows_what_it_took_in port_guid port priority conduct planning calls =
    let m = new_manager port_guid port priority conduct planning in
    knows calls m 1 [] refl ∙ at_same_floor (max 1 (greatest_floor calls)) (greatest_floor calls) (seen (taken_in calls m)) (omega arith)

pub same_taken_in_same_plan : SameTakenInSamePlan
same_taken_in_same_plan guid port priority guid' port' priority' conduct conduct' planning calls calls' floors same =
    let facts =
    knows_what_it_took_in guid port priority conduct planning calls
    ∙ members_decide_view (greatest_floor calls) (taken_in calls (new_manager guid port priority conduct planning))
    (taken_in calls' (new_manager guid' port' priority' conduct' planning)) same
    ∙ ap (λ floor. view_at floor (taken_in calls' (new_manager guid' port' priority' conduct' planning))) floors
    ∙ sym (knows_what_it_took_in guid' port' priority' conduct' planning calls') in
    let one = after_calls calls (new_manager guid port priority conduct planning) in
    let plannings = planning_of_calls calls (new_manager guid port priority conduct planning)
    ∙ sym (planning_of_calls calls' (new_manager guid' port' priority' conduct' planning)) in
    record {
      facts = facts;
      plan = λ i. plan_of (plannings i).rule (plannings i).lmc (cells_of (facts i));
      arrives = every_packet_arrives one.planning.rule one.planning.lmc one.store;
    }
