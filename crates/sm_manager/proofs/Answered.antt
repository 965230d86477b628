-- If no step failed, the steps that count are those that were done, those that wait and those that are still to be
-- sent.
use Rattle.std.proofs.Common.{◌≡◌, ◌<◌, ◌+◌, ℕ, Bool, true, false, cond, List, [], ◌∷◌, length, refl, sym, ap, ◌∙◌, subst, arith}
use Rattle.std.proofs.lemmas.Bool.{cond_both, eq-eqb, eqb-true, and_parts, and_from}
use Rattle.std.specs.Prelude.{◌^◌, ◌==◌, ◌&&◌, ◌||◌, Contains, Option, Some, None, drop, is_none, nat_le, not}
use Rattle.std.specs.List.{list_any}
use Rattle.smp_bytes.specs.Header.{done}
use Rattle.smp_bytes.specs.Field.{number_in}
use Rattle.smp_bytes.specs.Packet.{attribute_modifier, fault_of, status}
use Rattle.smp_bytes.specs.declared.smp_fault.SmpFault.{SmpFault}
use Rattle.subnet_view.proofs.Apart.{found_there}
use Rattle.sweep.specs.declared.answer.Answer.{Answer}
use Rattle.sweep.specs.declared.fault.SweepFault.{SweepFault}
use Rattle.sweep.specs.Replies.{judged}
use Rattle.sweep.specs.Sweep.{Sweep, is_done, timeout_fault}
use Rattle.std.specs.Prelude.{Result, Ok, Err}
use Rattle.request_table.proofs.Numbers.{rising_more, rising_pushed}
use Rattle.plan_steps.specs.declared.step.Step.{Step}
use Rattle.plan_steps.specs.Phase.{Phase}
use Rattle.sm_state.specs.declared.event.Event.TheVariants as event
use Rattle.sm_state.specs.declared.event.Message.{Message}
use Rattle.sm_state.specs.declared.transition.Transition.{Transition}
use Rattle.sm_state.specs.Control.{control_of_message, modifier_of_control}
use Rattle.sm_state.specs.declared.state.SmState.TheVariants.{Master}
use Rattle.sm_state.specs.Transitions.{status_of, stepped}
use Rattle.sm_manager.specs.declared.fault.ManagerFault.{ManagerFault}
use Rattle.sm_manager.specs.declared.fault.ManagerFault.TheVariants.{NotMaster, SequenceSpent, SweepRunning, WritingRunning}
use Rattle.sm_manager.specs.declared.outgoing.Outgoing.{Outgoing}
use Rattle.sm_manager.specs.declared.pending.Pending.{Pending}
use Rattle.sm_manager.specs.declared.way.Way.{Way}
use Rattle.sm_manager.specs.declared.pending.Purpose.{Purpose}
use Rattle.sm_manager.specs.declared.pending.Purpose.TheVariants as purpose
use Rattle.sm_manager.specs.StepsAnswered.{BeginNone, BeginsNone, WrittenIsEachStepDone, counting_in, does_by_packet, does_request, does_step, one_if, steps_done}
use Rattle.sm_manager.specs.CallLists.{Call, BeginSweep, WriteSteps, Take, Packet, Timeout, Raise, Merge, Poll, Handover, Yield, Rediscover, after_call, after_calls}
use Rattle.sm_manager.specs.Election.{asked, control_out, after_handover, handed_to, handover_fault, handover_move, heir_way, rediscover_fault, after_rediscover, after_yield, successor_way, yield_fault, info_pending, poll_fault, poll_out, poll_pending, poll_way, polled_by, after_poll, after_message}
use Rattle.sm_manager.specs.Manager.{Manager, Writing, begin_fault, new_manager, after_begin_sweep, taken_of}
use Rattle.sm_manager.specs.Packets.{Called, answered_by, answers, after_timeout, is_for_sweep, is_info_request, packet_taken, pending_for, refused, request_answered}
use Rattle.sm_manager.specs.Packets.{done as done_call, request_gave_up, after_request, sweep_answered, sweep_gave_up, sweep_timed_out, unless_spent}
use Rattle.sm_manager.specs.PlanFaults.{writing_fault}
use Rattle.sm_manager.specs.ManagerRequests.{counts, how_many, is_step, no_step_waits, none_counts, with_number, without_number}
use Rattle.sm_manager.specs.SmInfoAnswers.{acknowledged_by, answering, controlled, request_counted, is_control, moved_on, replying, request_counted, served}
use Rattle.sm_manager.specs.Traps.{represses, repressing}
use Rattle.sm_state.specs.Standing.{is_in, moved_to}
use Rattle.sm_manager.specs.Writing.{is_done_by, is_spent, is_written, is_written_by, next_pending, next_phase, noted, without_empty_phases}
use Rattle.sm_manager.specs.Writing.{phase_sent, phases_by, after_step, went_on_with, write_fault, write_fault_with, after_write_steps}
use Rattle.sm_manager.proofs.Begun.{may_begin}
use Rattle.sm_manager.proofs.Numbers as numbers
use Rattle.sm_manager.proofs.Numbers.{many_pushed}
use Rattle.sm_manager.proofs.CountedSteps.{CountFirst, Rising, StartsWithSteps, drop_keeps, fewer_count, first_counting, many_both, many_numbered, many_over, no_phase_left, none_counting, passed_counting, passed_keeps, passed_starts, rising_filtered, rising_phase}

-- calls that are no business of steps ------------------------------------------------------------------

record Beside (m after : Manager) : Type 0 where
  writing : after.writing ≡ m.writing
  many : how_many counts after.pending ≡ how_many counts m.pending
  rising : Rising m.counter m.pending → Rising after.counter after.pending

beside_both : (m middle after : Manager) → Beside m middle → Beside middle after → Beside m after
beside_both m middle after one two =
    record { writing = two.writing ∙ one.writing; many = two.many ∙ one.many; rising = λ r. two.rising (one.rising r) }

nothing : (m : Manager) → Beside m m
nothing m = record { writing = refl; many = refl; rising = λ r. r }

asks_beside : (m : Manager) (p : Pending) (out : Outgoing) → p.number ≡ m.counter → counts p ≡ false → Beside m (asked m p out)
asks_beside m p out number other =
    record {
      writing = refl;
      many =
          let more = many_pushed counts m.pending p in
          let none = ap numbers.one_if other in
          omega (arith, more, none);
      rising = λ r. rising_pushed (λ (q : Pending). q.number) 0 m.pending m.counter p r number;
    }

tells_beside : (m : Manager) (to : Option Way) (message : Option Message) → Beside m (after_message m to message)
tells_beside m None message = nothing m
tells_beside m (Some way) None = nothing m
tells_beside m (Some way) (Some message) =
    let control = control_of_message message in
    asks_beside m (info_pending m.counter purpose.Control (modifier_of_control control) way) (control_out m.standing m.counter way control) refl refl

polls_beside : (m : Manager) (to : Option Way) → Beside m (polled_by m to)
polls_beside m None = nothing m
polls_beside m (Some way) = asks_beside m (poll_pending m.counter way) (poll_out m.counter way) refl refl

moves_beside : (m : Manager) (bytes : List ℕ) (from : Option ℕ) (move : Transition) → Beside m (moved_on m bytes from move)
moves_beside m bytes from move =
    let answered = answering (record m { standing = moved_to move.state m.standing }) bytes from (status_of move) in
    beside_both m answered _ (record { writing = refl; many = refl; rising = λ r. r }) (tells_beside answered (acknowledged_by bytes from) move.message)

serves_beside : (m : Manager) (bytes : List ℕ) (from : Option ℕ) → Beside m (unless_spent m (served m bytes from)).manager
serves_beside m bytes from =
    cond_both (is_spent (served m bytes from)) (refused m SequenceSpent) (done_call (served m bytes from)) (λ (x : Called). Beside m x.manager)
    (λ _. nothing m)
    (λ _. cond_both (is_control m.standing bytes) (controlled m bytes from) (replying m bytes from) (Beside m)
    (λ _. beside_both m (request_counted m) _ (record { writing = refl; many = refl; rising = λ r. r })
    (moves_beside (request_counted m) bytes from (stepped m.standing.conduct m.standing.state (event.Control (number_in attribute_modifier bytes)))))
    (λ _. record { writing = refl; many = refl; rising = λ r. r }))

hands_beside : (m : Manager) (way : Option Way) → Beside m (handed_to m way)
hands_beside m way =
    let moved = record m { standing = moved_to (handover_move m).state m.standing } in
    beside_both m moved _ (record { writing = refl; many = refl; rising = λ r. r }) (tells_beside moved way (handover_move m).message)

sweep_beside : (m : Manager) (bytes : List ℕ) (s : Option Sweep) → Beside m (sweep_answered m bytes s).manager
sweep_beside m bytes None = nothing m
sweep_beside m bytes (Some s) = by_judged (judged s bytes)
  where
    by_judged : (r : Result Answer SweepFault) → Beside m (answered_by m s bytes r).manager
    by_judged (Ok answer) = record { writing = refl; many = refl; rising = λ r. r }
    by_judged (Err why) = nothing m

sweep_timed_beside : (m : Manager) (transaction : ℕ) (s : Option Sweep) → Beside m (sweep_gave_up m transaction s).manager
sweep_timed_beside m transaction None = nothing m
sweep_timed_beside m transaction (Some s) = by_fault (timeout_fault s transaction)
  where
    by_fault : (why : Option SweepFault) → Beside m (sweep_timed_out m s transaction why).manager
    by_fault (Some why) = nothing m
    by_fault None = record { writing = refl; many = refl; rising = λ r. r }

takes_beside : (m : Manager) (packets : List Outgoing) → Beside m (taken_of m packets).manager
takes_beside m [] = nothing m
takes_beside m (packet ∷ packets) = record { writing = refl; many = refl; rising = λ r. r }

-- numbers rise ------------------------------------------------------------------------------------------

phase_rises : (m : Manager) (w : Writing) → Rising m.counter m.pending → Rising (phase_sent m w).counter (phase_sent m w).pending
phase_rises m w rising =
    rising_more (λ (p : Pending). p.number) 0 m.pending (next_pending m.counter w.later) m.counter (m.counter + length (next_phase w.later).steps) rising
    (rising_phase (next_phase w.later).counts m.counter (next_phase w.later).steps)

-- a step is over, and its writing knows whether it was done
abbrev over_by : Manager → Pending → Bool → Option Writing → Manager
over_by m p was_done w = record m { pending = without_number p.number m.pending; writing = noted (counts p) was_done w }

over_rises : (m : Manager) (p : Pending) → Rising m.counter m.pending → Rising m.counter (without_number p.number m.pending)
over_rises m p rising = rising_filtered (λ (q : Pending). not (q.number == p.number)) 0 m.pending m.counter rising

step_rises : (m : Manager) (p : Pending) (was_done : Bool) → Rising m.counter m.pending
    → Rising (after_step m p was_done).counter (after_step m p was_done).pending
step_rises m p was_done rising = by_writing m.writing
  where
    by_writing : (o : Option Writing)
        → Rising (went_on_with (over_by m p was_done o) (noted (counts p) was_done o)).counter
        (went_on_with (over_by m p was_done o) (noted (counts p) was_done o)).pending
    by_writing None = over_rises m p rising
    by_writing (Some w) =
        let m1 = over_by m p was_done (Some w) in
        let w1 : Writing = record w { has_failed = w.has_failed || (counts p && not was_done) } in
        cond_both (no_step_waits (without_number p.number m.pending)) (phase_sent m1 w1) m1 (λ (x : Manager). Rising x.counter x.pending)
        (λ _. phase_rises m1 w1 (over_rises m p rising)) (λ _. over_rises m p rising)

request_rises : (m : Manager) (p : Pending) (answer : Option ℕ) (u : Purpose) → Rising m.counter m.pending
    → Rising (after_request m p answer u).manager.counter (after_request m p answer u).manager.pending
request_rises m p answer purpose.Poll rising = over_rises m p rising
request_rises m p answer purpose.Control rising = over_rises m p rising
request_rises m p answer (purpose.Step c) rising =
    cond_both (is_spent (after_step m p (is_done_by answer))) (refused m SequenceSpent) (done_call (after_step m p (is_done_by answer)))
    (λ (x : Called). Rising x.manager.counter x.manager.pending) (λ _. rising) (λ _. step_rises m p (is_done_by answer) rising)

packet_rises : (m : Manager) (bytes : List ℕ) (from : Option ℕ) (why : Option SmpFault) → Rising m.counter m.pending
    → Rising (packet_taken m bytes from why).manager.counter (packet_taken m bytes from why).manager.pending
packet_rises m bytes from (Some why) rising = rising
packet_rises m bytes from None rising = by_tests (is_info_request bytes) (represses m bytes) (is_for_sweep bytes)
  where
    by_pending : (o : Option Pending) → Rising (request_answered m bytes o).manager.counter (request_answered m bytes o).manager.pending
    by_pending None = rising
    by_pending (Some p) = request_rises m p (Some (status bytes)) p.purpose rising

    taken_by : (a t b : Bool) → Called
    taken_by a t b =
        cond a (unless_spent m (served m bytes from))
        (cond t (done_call (repressing m bytes from))
        (cond b (sweep_answered m bytes m.sweep) (request_answered m bytes (pending_for m bytes))))

    by_tests : (a t b : Bool) → Rising (taken_by a t b).manager.counter (taken_by a t b).manager.pending
    by_tests true t b = (serves_beside m bytes from).rising rising
    by_tests false true b = rising
    by_tests false false true = (sweep_beside m bytes m.sweep).rising rising
    by_tests false false false = by_pending (pending_for m bytes)

timeout_rises : (m : Manager) (transaction : ℕ) → Rising m.counter m.pending
    → Rising (after_timeout m transaction).manager.counter (after_timeout m transaction).manager.pending
timeout_rises m transaction rising =
    cond_both (nat_le (2 ^ 32) transaction) (sweep_gave_up m transaction m.sweep) (request_gave_up m (with_number transaction m.pending))
    (λ (x : Called). Rising x.manager.counter x.manager.pending) (λ _. (sweep_timed_beside m transaction m.sweep).rising rising)
    (λ _. by_pending (with_number transaction m.pending))
  where
    by_pending : (o : Option Pending) → Rising (request_gave_up m o).manager.counter (request_gave_up m o).manager.pending
    by_pending None = rising
    by_pending (Some p) = request_rises m p None p.purpose rising

call_rises : (m : Manager) (call : Call) → Rising m.counter m.pending → Rising (after_call m call).counter (after_call m call).pending
call_rises m BeginSweep rising =
    cond_both (is_none (begin_fault m)) (after_begin_sweep m) m (λ (x : Manager). Rising x.counter x.pending) (λ _. rising) (λ _. rising)
call_rises m WriteSteps rising =
    cond_both (is_none (writing_fault m)) (after_write_steps m) m (λ (x : Manager). Rising x.counter x.pending)
    (λ _. phase_rises m (record { later = without_empty_phases (phases_by m m.sweep); has_failed = false }) rising) (λ _. rising)
call_rises m Take rising = (takes_beside m m.outgoing).rising rising
call_rises m (Packet bytes from) rising = packet_rises m bytes from (fault_of bytes) rising
call_rises m (Timeout transaction) rising = timeout_rises m transaction rising
call_rises m (Raise floor) rising = rising
call_rises m (Merge floor sightings) rising = rising
call_rises m (Poll lid) rising =
    cond_both (is_none (poll_fault m lid)) (after_poll m lid) m (λ (x : Manager). Rising x.counter x.pending)
    (λ _. (polls_beside m (poll_way m lid)).rising rising) (λ _. rising)
call_rises m Handover rising =
    cond_both (is_none (handover_fault m)) (after_handover m) m (λ (x : Manager). Rising x.counter x.pending)
    (λ _. (hands_beside m (successor_way m)).rising rising) (λ _. rising)
call_rises m Yield rising =
    cond_both (is_none (yield_fault m)) (after_yield m) m (λ (x : Manager). Rising x.counter x.pending)
    (λ _. (hands_beside m (heir_way m)).rising rising) (λ _. rising)
call_rises m Rediscover rising =
    cond_both (is_none (rediscover_fault m)) (after_rediscover m) m (λ (x : Manager). Rising x.counter x.pending) (λ _. rising) (λ _. rising)

calls_rise : (calls : List Call) (m : Manager) → Rising m.counter m.pending → Rising (after_calls calls m).counter (after_calls calls m).pending
calls_rise [] m rising = rising
calls_rise (call ∷ calls) m rising = calls_rise calls (after_call m call) (call_rises m call rising)

-- what a call is to the steps ---------------------------------------------------------------------------

-- how many that count wait or are still to be sent
abbrev left_of : Manager → Writing → ℕ
left_of m w = how_many counts m.pending + counting_in w.later

-- one that counts may have ended, done or not
record StepsOn (w : Writing) (m after : Manager) (d : ℕ) : Type 0 where
  now : Writing
  is : after.writing ≡ Some now
  first : CountFirst now.later
  starts : StartsWithSteps now.later
  ended : Bool
  was_done : Bool
  left : left_of after now + one_if ended ≡ left_of m w
  failed : now.has_failed ≡ w.has_failed || (ended && not was_done)
  done : d ≡ one_if (ended && was_done)
  rising : Rising after.counter after.pending

or_false : (b : Bool) → b ≡ b || false
or_false true = refl
or_false false = refl

module _ (m : Manager) (w : Writing) (writing : m.writing ≡ Some w) (first : CountFirst w.later) (starts : StartsWithSteps w.later)
    (rising : Rising m.counter m.pending) where
  from_beside : (after : Manager) → Beside m after → StepsOn w m after 0
  from_beside after beside =
      record {
        now = w;
        is = beside.writing ∙ writing;
        first = first;
        starts = starts;
        ended = false;
        was_done = false;
        left = let same = beside.many in omega (arith, same);
        failed = or_false w.has_failed;
        done = refl;
        rising = beside.rising rising;
      }

  -- a step is over
  step_ends : (p : Pending) → Contains m.pending p → (was_done : Bool) → StepsOn w m (after_step m p was_done) (one_if (counts p && was_done))
  step_ends p there was_done =
      subst (λ (o : Option Writing). StepsOn w m (went_on_with (over_by m p was_done o) (noted (counts p) was_done o)) (one_if (counts p && was_done)))
      (sym writing)
      (cond_both (no_step_waits (without_number p.number m.pending)) (phase_sent m1 w1) m1 (λ (x : Manager). StepsOn w m x (one_if (counts p && was_done)))
      (λ _. goes_on) (λ _. stands))
    where
      w1 : Writing
      w1 = record w { has_failed = w.has_failed || (counts p && not was_done) }

      m1 : Manager
      m1 = over_by m p was_done (Some w)

      less : how_many counts (without_number p.number m.pending) + one_if (counts p) ≡ how_many counts m.pending
      less = many_over m.counter m.pending p rising there

      stands : StepsOn w m m1 (one_if (counts p && was_done))
      stands =
          record {
            now = w1;
            is = refl;
            first = first;
            starts = starts;
            ended = counts p;
            was_done = was_done;
            left = omega (arith, less);
            failed = refl;
            done = refl;
            rising = over_rises m p rising;
          }

      goes_on : StepsOn w m (phase_sent m1 w1) (one_if (counts p && was_done))
      goes_on =
          let next = next_phase w.later in
          let sent = many_both (without_number p.number m.pending) (next_pending m.counter w.later) in
          let phase = many_numbered next.counts m.counter next.steps in
          let later = passed_counting (drop 1 w.later) in
          let all = first_counting w.later in
          record {
            now = record w1 { later = without_empty_phases (drop 1 w.later) };
            is = refl;
            first = passed_keeps (drop 1 w.later) (drop_keeps w.later first);
            starts = passed_starts (drop 1 w.later);
            ended = counts p;
            was_done = was_done;
            left = omega (arith, less, sent, phase, later, all);
            failed = refl;
            done = refl;
            rising = phase_rises m1 w1 (over_rises m p rising);
          }

  -- another request is over
  gone_beside : (p : Pending) → Contains m.pending p → counts p ≡ false → (after : Manager) → after.writing ≡ m.writing
      → after.pending ≡ without_number p.number m.pending → after.counter ≡ m.counter → Beside m after
  gone_beside p there other after same pending counter =
      record {
        writing = same;
        many =
            let less = many_over m.counter m.pending p rising there in
            let none = ap one_if other in
            let gone = ap (how_many counts) pending in
            omega (arith, less, none, gone);
        rising = λ r. subst (λ ps. Rising after.counter ps) (sym pending)
            (subst (λ n. Rising n (without_number p.number m.pending)) (sym counter) (over_rises m p r));
      }

  none_done : (c b : Bool) → 0 ≡ one_if (c && (b && false))
  none_done true true = refl
  none_done true false = refl
  none_done false b = refl

  all_done : (c b : Bool) → one_if (c && b) ≡ one_if (c && (b && true))
  all_done true true = refl
  all_done true false = refl
  all_done false b = refl

  none_timed : (c b : Bool) → one_if (c && (false && b)) ≡ 0
  none_timed true b = refl
  none_timed false b = refl

  request_ends : (p : Pending) → Contains m.pending p → (answer : Option ℕ)
      → StepsOn w m (after_request m p answer p.purpose).manager (one_if (counts p
      && (is_done_by answer && is_none (after_request m p answer p.purpose).fault)))
  request_ends p there answer = by_purpose p.purpose refl
    where
      by_purpose : (u : Purpose) → p.purpose ≡ u
          → StepsOn w m (after_request m p answer u).manager (one_if (counts p && (is_done_by answer && is_none (after_request m p answer u).fault)))
      by_purpose purpose.Poll is =
          let other : counts p ≡ false = ap (λ u. counts (record p { purpose = u })) is in
          subst (λ b. StepsOn w m (after_request m p answer purpose.Poll).manager (one_if (b && (is_done_by answer && true)))) (sym other)
          (from_beside _ (gone_beside p there other _ refl refl refl))
      by_purpose purpose.Control is =
          let other : counts p ≡ false = ap (λ u. counts (record p { purpose = u })) is in
          subst (λ b. StepsOn w m (after_request m p answer purpose.Control).manager (one_if (b && (is_done_by answer && true)))) (sym other)
          (from_beside _ (gone_beside p there other _ refl refl refl))
      by_purpose (purpose.Step c) is =
          cond_both (is_spent (after_step m p (is_done_by answer))) (refused m SequenceSpent) (done_call (after_step m p (is_done_by answer)))
          (λ (x : Called). StepsOn w m x.manager (one_if (counts p && (is_done_by answer && is_none x.fault))))
          (λ _. subst (StepsOn w m m) (none_done (counts p) (is_done_by answer)) (from_beside m (nothing m)))
          (λ _. subst (StepsOn w m (after_step m p (is_done_by answer))) (all_done (counts p) (is_done_by answer)) (step_ends p there (is_done_by answer)))

  packet_ends : (bytes : List ℕ) (from : Option ℕ) (why : Option SmpFault)
      → StepsOn w m (packet_taken m bytes from why).manager (one_if (does_by_packet m bytes why))
  packet_ends bytes from (Some why) = from_beside m (nothing m)
  packet_ends bytes from None = by_tests (is_info_request bytes) (represses m bytes) (is_for_sweep bytes)
    where
      by_pending : (o : Option Pending) → pending_for m bytes ≡ o → StepsOn w m (request_answered m bytes o).manager (one_if (does_request m bytes o))
      by_pending None e = from_beside m (nothing m)
      by_pending (Some p) e = request_ends p (found_there (answers bytes) m.pending p e).0 (Some (status bytes))

      by_tests : (a t b : Bool)
          → StepsOn w m (cond a (unless_spent m (served m bytes from)) (cond t (done_call (repressing m bytes from))
          (cond b (sweep_answered m bytes m.sweep) (request_answered m bytes (pending_for m bytes))))).manager
          (one_if (cond a false (cond t false (cond b false (does_request m bytes (pending_for m bytes))))))
      by_tests true t b = from_beside _ (serves_beside m bytes from)
      by_tests false true b = from_beside _ (record { writing = refl; many = refl; rising = λ r. r })
      by_tests false false true = from_beside _ (sweep_beside m bytes m.sweep)
      by_tests false false false = by_pending (pending_for m bytes) refl

  timeout_ends : (transaction : ℕ) → StepsOn w m (after_timeout m transaction).manager 0
  timeout_ends transaction =
      cond_both (nat_le (2 ^ 32) transaction) (sweep_gave_up m transaction m.sweep) (request_gave_up m (with_number transaction m.pending))
      (λ (x : Called). StepsOn w m x.manager 0) (λ _. from_beside _ (sweep_timed_beside m transaction m.sweep))
      (λ _. by_pending (with_number transaction m.pending) refl)
    where
      by_pending : (o : Option Pending) → with_number transaction m.pending ≡ o → StepsOn w m (request_gave_up m o).manager 0
      by_pending None e = from_beside m (nothing m)
      by_pending (Some p) e =
          subst (StepsOn w m (after_request m p None p.purpose).manager) (none_timed (counts p) (is_none (after_request m p None p.purpose).fault))
          (request_ends p (found_there (λ (x : Pending). x.number == transaction) m.pending p e).0 None)

  call_ends : (call : Call) → BeginsNone m call → StepsOn w m (after_call m call) (one_if (does_step m call))
  call_ends BeginSweep begins =
      cond_both (is_none (begin_fault m)) (after_begin_sweep m) m (λ (x : Manager). StepsOn w m x 0)
      (λ _. from_beside (after_begin_sweep m) (record { writing = refl; many = refl; rising = λ r. r })) (λ _. from_beside m (nothing m))
  call_ends WriteSteps begins = by_fault (writing_fault m) refl
    where
      by_fault : (o : Option ManagerFault) → writing_fault m ≡ o → StepsOn w m (cond (is_none o) (after_write_steps m) m) 0
      by_fault None e = absurd (begins e)
      by_fault (Some why) e = from_beside m (nothing m)
  call_ends Take begins = from_beside _ (takes_beside m m.outgoing)
  call_ends (Packet bytes from) begins = packet_ends bytes from (fault_of bytes)
  call_ends (Timeout transaction) begins = timeout_ends transaction
  call_ends (Raise floor) begins = from_beside _ (record { writing = refl; many = refl; rising = λ r. r })
  call_ends (Merge floor sightings) begins = from_beside _ (record { writing = refl; many = refl; rising = λ r. r })
  call_ends (Poll lid) begins =
      cond_both (is_none (poll_fault m lid)) (after_poll m lid) m (λ (x : Manager). StepsOn w m x 0)
      (λ _. from_beside _ (polls_beside m (poll_way m lid))) (λ _. from_beside m (nothing m))
  call_ends Handover begins =
      cond_both (is_none (handover_fault m)) (after_handover m) m (λ (x : Manager). StepsOn w m x 0) (λ _. from_beside _ (hands_beside m (successor_way m)))
      (λ _. from_beside m (nothing m))
  call_ends Yield begins =
      cond_both (is_none (yield_fault m)) (after_yield m) m (λ (x : Manager). StepsOn w m x 0) (λ _. from_beside _ (hands_beside m (heir_way m)))
      (λ _. from_beside m (nothing m))
  call_ends Rediscover begins =
      cond_both (is_none (rediscover_fault m)) (after_rediscover m) m (λ (x : Manager). StepsOn w m x 0)
      (λ _. from_beside (after_rediscover m) (record { writing = refl; many = refl; rising = λ r. r })) (λ _. from_beside m (nothing m))

-- all calls ---------------------------------------------------------------------------------------------

-- if no step failed, the steps that were done and those that are left are all; else they are fewer
record Balanced (total d : ℕ) (m : Manager) : Type 0 where
  now : Writing
  is : m.writing ≡ Some now
  first : CountFirst now.later
  starts : StartsWithSteps now.later
  good : now.has_failed ≡ false → d + left_of m now ≡ total
  bad : now.has_failed ≡ true → d + left_of m now < total
  rising : Rising m.counter m.pending

balanced_on : (total d : ℕ) (m : Manager) (call : Call) → Balanced total d m → BeginsNone m call
    → Balanced total (d + one_if (does_step m call)) (after_call m call)
balanced_on total d m call b begins =
    let s = call_ends m b.now b.is b.first b.starts b.rising call begins in
    record {
      now = s.now;
      is = s.is;
      first = s.first;
      starts = s.starts;
      good = λ works. good s.ended s.was_done b.now.has_failed (left_of (after_call m call) s.now) (one_if (does_step m call)) s.left s.done (sym s.failed
          ∙ works) b.good;
      bad = λ fails. bad s.ended s.was_done b.now.has_failed (left_of (after_call m call) s.now) (one_if (does_step m call)) s.left s.done (sym s.failed
          ∙ fails) b.good b.bad;
      rising = s.rising;
    }
  where
    before : ℕ
    before = left_of m b.now

    good : (ended was_done failed : Bool) (after one : ℕ) → after + one_if ended ≡ before → one ≡ one_if (ended && was_done)
        → failed || (ended && not was_done) ≡ false → (failed ≡ false → d + before ≡ total) → (d + one) + after ≡ total
    good ended was_done true after one left done works h = absurd (cc)
    good true true false after one left done works h = let e = h refl in omega (arith, left, done, e)
    good true false false after one left done works h = absurd (cc)
    good false was_done false after one left done works h = let e = h refl in omega (arith, left, done, e)

    bad : (ended was_done failed : Bool) (after one : ℕ) → after + one_if ended ≡ before → one ≡ one_if (ended && was_done)
        → failed || (ended && not was_done) ≡ true → (failed ≡ false → d + before ≡ total) → (failed ≡ true → d + before < total) → (d + one) + after < total
    bad true true true after one left done fails h k = let e = k refl in omega (arith, left, done, e)
    bad true false true after one left done fails h k = let e = k refl in omega (arith, left, done, e)
    bad false was_done true after one left done fails h k = let e = k refl in omega (arith, left, done, e)
    bad true true false after one left done fails h k = absurd (cc)
    bad true false false after one left done fails h k = let e = h refl in omega (arith, left, done, e)
    bad false was_done false after one left done fails h k = absurd (cc)

balanced_calls : (total d : ℕ) (calls : List Call) (m : Manager) → Balanced total d m → BeginNone calls m
    → Balanced total (d + steps_done calls m) (after_calls calls m)
balanced_calls total d [] m b begin = let same : d ≡ d + 0 = omega arith in subst (λ n. Balanced total n m) same b
balanced_calls total d (call ∷ calls) m b begin =
    let rest = balanced_calls total (d + one_if (does_step m call)) calls (after_call m call) (balanced_on total d m call b begin.0) begin.1 in
    let same : (d + one_if (does_step m call)) + steps_done calls (after_call m call) ≡ d + (one_if (does_step m call) + steps_done calls (after_call m call)) =
    omega arith in
    subst (λ n. Balanced total n (after_calls calls (after_call m call))) same rest

-- the end -----------------------------------------------------------------------------------------------

from_not : (b : Bool) → not b ≡ true → b ≡ false
from_not true h = absurd (cc)
from_not false h = refl

written_exactly : (total d : ℕ) (m : Manager) → Balanced total d m → ((is_written m ≡ true) → d ≡ total) × (d ≡ total → is_written m ≡ true)
written_exactly total d m b = (
  λ written.
      let h : is_written_by m.pending (Some b.now) ≡ true = ap (is_written_by m.pending) (sym b.is) ∙ written in
      let parts = and_parts (not b.now.has_failed) (not (list_any (λ (p : Phase). p.counts) b.now.later) && none_counts m.pending) h in
      let rest = and_parts (not (list_any (λ (p : Phase). p.counts) b.now.later)) (none_counts m.pending) parts.1 in
      let sent = none_counting b.now.later (from_not _ rest.0) in
      let answered = eqb-true (how_many counts m.pending) 0 rest.1 in
      let all = b.good (from_not _ parts.0) in
      omega (arith, sent, answered, all),
  λ each. ap (is_written_by m.pending) b.is ∙ by_failed each b.now.has_failed refl,
)
  where
    by_failed : d ≡ total → (failed : Bool) → b.now.has_failed ≡ failed → is_written_by m.pending (Some b.now) ≡ true
    by_failed each true e = let few = b.bad e in absurd (omega (arith, each, few))
    by_failed each false e =
        let all = b.good e in
        let waiting : how_many counts m.pending ≡ 0 = omega (arith, each, all) in
        let later : counting_in b.now.later ≡ 0 = omega (arith, each, all) in
        and_from (not b.now.has_failed) (not (list_any (λ (p : Phase). p.counts) b.now.later) && none_counts m.pending) (ap not e)
        (and_from (not (list_any (λ (p : Phase). p.counts) b.now.later)) (none_counts m.pending)
        (ap not (no_phase_left b.now.later b.first b.starts later)) (eq-eqb (how_many counts m.pending) 0 waiting))

-- the beginning -----------------------------------------------------------------------------------------

phases_count_first : (m : Manager) (o : Option Sweep) → CountFirst (phases_by m o)
phases_count_first m None = tt
phases_count_first m (Some s) =
    (λ e. absurd (cc e), (λ e. absurd (cc e), (λ e. absurd (cc e), (λ e. absurd (cc e), (λ e. absurd (cc e), (λ _. (refl, tt), (λ _. tt, tt)))))))

none_waits : (m : Manager) → write_fault m ≡ None → no_step_waits m.pending ≡ true
none_waits m e = by_sweep m.sweep e
  where
    third : (a b c : Bool) (u v w : ManagerFault) → cond a (Some u) (cond b (Some v) (cond (not c) (Some w) None)) ≡ None → c ≡ true
    third true b c u v w h = absurd (cc)
    third false true c u v w h = absurd (cc)
    third false false true u v w h = refl
    third false false false u v w h = absurd (cc)

    by_sweep : (o : Option Sweep) → write_fault_with m o ≡ None → no_step_waits m.pending ≡ true
    by_sweep None h = absurd (cc)
    by_sweep (Some s) h = third (not (is_in Master m.standing)) (not (is_done s)) (no_step_waits m.pending) NotMaster SweepRunning WritingRunning h

begins_balanced : (m : Manager) → Rising m.counter m.pending → writing_fault m ≡ None → Balanced (counting_in (phases_by m m.sweep)) 0 (after_write_steps m)
begins_balanced m rising e =
    let phases = phases_by m m.sweep in
    let next = next_phase (without_empty_phases phases) in
    let none = eqb-true (how_many is_step m.pending) 0 (none_waits m (may_begin m e).may) in
    let fewer = fewer_count m.pending in
    let sent = many_both m.pending (next_pending m.counter (without_empty_phases phases)) in
    let phase = many_numbered next.counts m.counter next.steps in
    let later = passed_counting (drop 1 (without_empty_phases phases)) in
    let all = first_counting (without_empty_phases phases) in
    let whole = passed_counting phases in
    record {
      now = record { later = without_empty_phases (drop 1 (without_empty_phases phases)); has_failed = false };
      is = refl;
      first = passed_keeps (drop 1 (without_empty_phases phases))
          (drop_keeps (without_empty_phases phases) (passed_keeps phases (phases_count_first m m.sweep)));
      starts = passed_starts (drop 1 (without_empty_phases phases));
      good = λ _. omega (arith, none, fewer, sent, phase, later, all, whole);
      bad = λ fails. absurd (cc fails);
      rising = phase_rises m (record { later = without_empty_phases phases; has_failed = false }) rising;
    }

pub written_is_each_step_done : WrittenIsEachStepDone
written_is_each_step_done port_guid port priority conduct planning before after begins none =
    let m = after_calls before (new_manager port_guid port priority conduct planning) in
    let rising = calls_rise before (new_manager port_guid port priority conduct planning) (omega arith) in
    let total = counting_in (phases_by m m.sweep) in
    let all = balanced_calls total 0 after (after_write_steps m) (begins_balanced m rising begins) none in
    let same : 0 + steps_done after (after_write_steps m) ≡ steps_done after (after_write_steps m) = omega arith in
    written_exactly total (steps_done after (after_write_steps m)) (after_calls after (after_write_steps m))
    (subst (λ n. Balanced total n (after_calls after (after_write_steps m))) same all)
