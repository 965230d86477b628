-- The numbers of a manager's requests fit in 32 bits.
use Rattle.std.proofs.Common.{◌≡◌, ◌≤◌, ◌+◌, ◌^◌, ℕ, Bool, true, false, cond, List, [], ◌∷◌, refl, arith, subst}
use Rattle.std.proofs.lemmas.Bool.{cond_both, ltb-false}
use Rattle.std.specs.Prelude.{Option, Some, None, Result, Ok, Err, is_none, nat_le}
use Rattle.smp_bytes.specs.Packet.{fault_of, status}
use Rattle.smp_bytes.specs.declared.smp_fault.SmpFault.{SmpFault}
use Rattle.fact_store.specs.View.{cells_of}
use Rattle.sweep.specs.declared.answer.Answer.{Answer}
use Rattle.sweep.specs.declared.fault.SweepFault.{SweepFault}
use Rattle.sweep.specs.Replies.{judged}
use Rattle.sweep.specs.Sweep.{Sweep, timeout_fault}
use Rattle.sm_state.specs.Standing.{is_in, moved_to}
use Rattle.sm_state.specs.declared.election.SeenManager.{SeenManager}
use Rattle.sm_state.specs.declared.event.Message.{Message}
use Rattle.sm_state.specs.declared.state.SmState.TheVariants.{Standby}
use Rattle.sm_manager.specs.declared.fault.ManagerFault.{ManagerFault}
use Rattle.sm_manager.specs.declared.fault.ManagerFault.TheVariants.{Nobody, NotMaster, NotStandby, SequenceSpent}
use Rattle.sm_manager.specs.declared.outgoing.Outgoing.{Outgoing}
use Rattle.sm_manager.specs.declared.pending.Pending.{Pending}
use Rattle.sm_manager.specs.declared.pending.Purpose.{Purpose}
use Rattle.sm_manager.specs.declared.pending.Purpose.TheVariants as purpose
use Rattle.sm_manager.specs.CallLists.{Call, BeginSweep, WriteSteps, Take, Packet, Timeout, Raise, Merge, Poll}
use Rattle.sm_manager.specs.CallLists.{Handover, Yield, Rediscover, after_call, after_calls}
use Rattle.sm_manager.specs.Election.{after_handover, after_message, after_poll, after_rediscover, after_yield}
use Rattle.sm_manager.specs.Election.{handed_to, handing_fault, handover_fault, handover_move, heir, heir_way}
use Rattle.sm_manager.specs.Election.{poll_fault, poll_way, polled_by, planned_way, way_seen, rediscover_fault}
use Rattle.sm_manager.specs.Election.{successor, successor_way}
use Rattle.sm_manager.specs.Election.{unless_way, yield_fault}
use Rattle.sm_manager.specs.declared.way.Way.{Way}
use Rattle.sm_state.specs.Conduct.{is_live}
use Rattle.sm_manager.specs.Manager.{Manager, after_begin_sweep, begin_fault, taken_of}
use Rattle.sm_manager.specs.ManagerRequests.{with_number}
use Rattle.sm_manager.specs.Packets.{Called, after_request, after_timeout, answered_by, done, is_for_sweep}
use Rattle.sm_manager.specs.Packets.{is_info_request, packet_taken, pending_for, refused, request_answered}
use Rattle.sm_manager.specs.Packets.{request_gave_up, sweep_answered, sweep_gave_up, sweep_timed_out, unless_spent}
use Rattle.sm_manager.specs.PlanFaults.{number_fault, or_else, plan_fault, writing_fault}
use Rattle.sm_manager.specs.SmInfoAnswers.{served}
use Rattle.sm_manager.specs.Traps.{represses, repressing}
use Rattle.sm_manager.specs.Writing.{after_step, after_write_steps, is_done_by, is_spent}
use Rattle.sm_manager.proofs.Begun.{first_phase_fits, or_none}
use Rattle.sm_manager.proofs.Over.{numbers_there}
use Rattle.manager_laws.specs.WritingEnds.{HasLived}

abbrev pub Fits : Manager → Type 0
Fits m = m.counter ≤ 2 ^ 32

no_fault : (o : Option ManagerFault) → is_none o ≡ true → o ≡ None
no_fault None e = refl
no_fault (Some why) e = absurd (cc)

tells_fit : (m : Manager) (to : Option Way) (message : Option Message) → m.counter + 1 ≤ 2 ^ 32
    → Fits (after_message m to message)
tells_fit m None message few = omega (arith, few)
tells_fit m (Some way) None few = omega (arith, few)
tells_fit m (Some way) (Some message) few = few

module _ (m : Manager) (few : m.counter ≤ 2 ^ 32) where
  unspent : (after : Manager) → Fits (unless_spent m after).manager
  unspent after =
      cond_both (is_spent after) (refused m SequenceSpent) (done after) (λ (x : Called). Fits x.manager) (λ _. few)
      (λ fits. ltb-false (2 ^ 32) after.counter fits)

  sweep_fits : (bytes : List ℕ) (o : Option Sweep) → Fits (sweep_answered m bytes o).manager
  sweep_fits bytes None = few
  sweep_fits bytes (Some s) = by_judged (judged s bytes)
    where
      by_judged : (r : Result Answer SweepFault) → Fits (answered_by m s bytes r).manager
      by_judged (Ok answer) = few
      by_judged (Err why) = few

  sweep_out_fits : (transaction : ℕ) (o : Option Sweep) → Fits (sweep_gave_up m transaction o).manager
  sweep_out_fits transaction None = few
  sweep_out_fits transaction (Some s) = by_fault (timeout_fault s transaction)
    where
      by_fault : (why : Option SweepFault) → Fits (sweep_timed_out m s transaction why).manager
      by_fault (Some why) = few
      by_fault None = few

  request_fits : (p : Pending) (answer : Option ℕ) (u : Purpose) → Fits (after_request m p answer u).manager
  request_fits p answer purpose.Poll = few
  request_fits p answer purpose.Control = few
  request_fits p answer (purpose.Step c) = unspent (after_step m p (is_done_by answer))

  packet_fits : (bytes : List ℕ) (from : Option ℕ) (why : Option SmpFault)
      → Fits (packet_taken m bytes from why).manager
  packet_fits bytes from (Some why) = few
  packet_fits bytes from None = by_tests (is_info_request bytes) (represses m bytes) (is_for_sweep bytes)
    where
      by_pending : (o : Option Pending) → Fits (request_answered m bytes o).manager
      by_pending None = few
      by_pending (Some p) = request_fits p (Some (status bytes)) p.purpose

      taken_by : (a t b : Bool) → Called
      taken_by a t b =
          cond a (unless_spent m (served m bytes from))
          (cond t (done (repressing m bytes from))
          (cond b (sweep_answered m bytes m.sweep) (request_answered m bytes (pending_for m bytes))))

      by_tests : (a t b : Bool) → Fits (taken_by a t b).manager
      by_tests true t b = unspent (served m bytes from)
      by_tests false true b = few
      by_tests false false true = sweep_fits bytes m.sweep
      by_tests false false false = by_pending (pending_for m bytes)

  timeout_fits : (transaction : ℕ) → Fits (after_timeout m transaction).manager
  timeout_fits transaction =
      cond_both (nat_le (2 ^ 32) transaction) (sweep_gave_up m transaction m.sweep)
      (request_gave_up m (with_number transaction m.pending)) (λ (x : Called). Fits x.manager)
      (λ _. sweep_out_fits transaction m.sweep) (λ _. by_pending (with_number transaction m.pending))
    where
      by_pending : (o : Option Pending) → Fits (request_gave_up m o).manager
      by_pending None = few
      by_pending (Some p) = request_fits p None p.purpose

  takes_fit : (packets : List Outgoing) → Fits (taken_of m packets).manager
  takes_fit [] = few
  takes_fit (packet ∷ packets) = few

  polls_fit : (to : Option Way) → m.counter + 1 ≤ 2 ^ 32 → Fits (polled_by m to)
  polls_fit None numbers = few
  polls_fit (Some way) numbers = numbers

  poll_fits : (lid : Option ℕ) → poll_fault m lid ≡ None → Fits (after_poll m lid)
  poll_fits lid none =
      polls_fit (poll_way m lid)
      (numbers_there (m.counter + 1) (by_state (is_in Standby m.standing) (unless_way (poll_way m lid)) none))
    where
      by_state : (b : Bool) (way : Option ManagerFault)
          → cond b (or_else way (number_fault (m.counter + 1))) (Some NotStandby) ≡ None
          → number_fault (m.counter + 1) ≡ None
      by_state true way e = (or_none way (number_fault (m.counter + 1)) e).1
      by_state false way e = absurd (cc)

  hands_fit : (receiver : Option SeenManager) (to : Option Way) → handing_fault m receiver ≡ None
      → Fits (handed_to m to)
  hands_fit receiver to none =
      tells_fit (record m { standing = moved_to (handover_move m).state m.standing }) to (handover_move m).message
      (numbers_there (m.counter + 1)
      (by_tests (is_none (handover_move m).message) (is_live m.standing.conduct) (is_none receiver)
      (unless_way (way_seen m receiver)) (plan_fault m.planning.lmc (cells_of m.store))
      (unless_way (planned_way m receiver)) none))
    where
      by_tests : (a live b : Bool) (seen plan way : Option ManagerFault)
          → cond a (Some NotMaster)
          (cond live (or_else seen (number_fault (m.counter + 1)))
          (cond b (Some Nobody) (or_else plan (or_else way (number_fault (m.counter + 1))))))
          ≡ None
          → number_fault (m.counter + 1) ≡ None
      by_tests true live b seen plan way e = absurd (cc)
      by_tests false true b seen plan way e = (or_none seen (number_fault (m.counter + 1)) e).1
      by_tests false false true seen plan way e = absurd (cc)
      by_tests false false false seen plan way e =
          (or_none way (number_fault (m.counter + 1))
          (or_none plan (or_else way (number_fault (m.counter + 1))) e).1).1

  call_fits : (call : Call) → Fits (after_call m call)
  call_fits BeginSweep = cond_both (is_none (begin_fault m)) (after_begin_sweep m) m Fits (λ _. few) (λ _. few)
  call_fits WriteSteps =
      cond_both (is_none (writing_fault m)) (after_write_steps m) m Fits
      (λ none. first_phase_fits m (no_fault (writing_fault m) none)) (λ _. few)
  call_fits Take = takes_fit m.outgoing
  call_fits (Packet bytes from) = packet_fits bytes from (fault_of bytes)
  call_fits (Timeout transaction) = timeout_fits transaction
  call_fits (Raise floor) = few
  call_fits (Merge floor sightings) = few
  call_fits (Poll lid) =
      cond_both (is_none (poll_fault m lid)) (after_poll m lid) m Fits
      (λ none. poll_fits lid (no_fault (poll_fault m lid) none)) (λ _. few)
  call_fits Handover =
      cond_both (is_none (handover_fault m)) (after_handover m) m Fits
      (λ none. hands_fit (successor m) (successor_way m) (no_fault (handover_fault m) none)) (λ _. few)
  call_fits Yield =
      cond_both (is_none (yield_fault m)) (after_yield m) m Fits
      (λ none. hands_fit (heir m) (heir_way m) (no_fault (yield_fault m) none)) (λ _. few)
  call_fits Rediscover = cond_both (is_none (rediscover_fault m)) (after_rediscover m) m Fits (λ _. few) (λ _. few)

pub calls_fit : (calls : List Call) (m : Manager) → Fits m → Fits (after_calls calls m)
calls_fit [] m few = few
calls_fit (call ∷ calls) m few = calls_fit calls (after_call m call) (call_fits m few call)

pub life_fits : (m : Manager) → HasLived m → Fits m
life_fits m life = subst Fits life.are (calls_fit life.calls _ (omega arith))
