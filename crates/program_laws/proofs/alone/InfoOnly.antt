-- What waits outside sweeps, and is no step of a writing, is for SMInfo.
use Rattle.std.proofs.Common.{◌≡◌, ℕ, suc, Bool, false, not, List, [], ◌∷◌, ◌++◌, refl, subst}
use Rattle.std.proofs.lemmas.Bool.{cond_both}
use Rattle.std.specs.List.{AllByRecursion}
use Rattle.std.specs.Prelude.{◌^◌, ◌==◌, Option, Some, None, Result, Ok, Err, is_none, nat_le}
use Rattle.smp_bytes.specs.Header.{sm_info}
use Rattle.smp_bytes.specs.Packet.{fault_of, status}
use Rattle.smp_bytes.specs.declared.smp_fault.SmpFault.{SmpFault}
use Rattle.plan_steps.specs.declared.step.Step.{Step}
use Rattle.sweep.specs.declared.answer.Answer.{Answer}
use Rattle.sweep.specs.declared.fault.SweepFault.{SweepFault}
use Rattle.sweep.specs.Replies.{judged}
use Rattle.sweep.specs.Sweep.{Sweep, timeout_fault}
use Rattle.sm_state.specs.Standing.{moved_to}
use Rattle.sm_state.specs.declared.event.Message.{Message}
use Rattle.sm_manager.specs.CallLists.{Call, after_call, after_calls}
use Rattle.sm_manager.specs.Election.{after_handover, after_message, after_poll, after_rediscover, after_yield, handed_to, handover_fault, handover_move}
use Rattle.sm_manager.specs.Election.{heir_way, poll_fault, poll_way, polled_by, rediscover_fault, successor_way, yield_fault}
use Rattle.sm_manager.specs.Manager.{Manager, Writing, after_begin_sweep, begin_fault, taken_of}
use Rattle.sm_manager.specs.ManagerRequests.{counts, is_step, no_step_waits, with_number, without_number}
use Rattle.sm_manager.specs.Packets.{Called, after_request, answered_by, done, is_for_sweep, is_info_request, packet_taken, pending_for, refused}
use Rattle.sm_manager.specs.Packets.{request_answered, request_gave_up, sweep_answered, sweep_gave_up, sweep_timed_out, unless_spent}
use Rattle.sm_manager.specs.PlanFaults.{writing_fault}
use Rattle.sm_manager.specs.SmInfoAnswers.{acknowledged_by, answering, controlled, is_control, replying, served}
use Rattle.sm_manager.specs.Traps.{represses, repressing}
use Rattle.sm_manager.specs.Writing.{after_step, after_write_steps, is_done_by, is_spent, next_phase, noted, numbered, phase_sent, phases_by, went_on_with, without_empty_phases}
use Rattle.sm_manager.specs.declared.fault.ManagerFault.TheVariants.{SequenceSpent}
use Rattle.sm_manager.specs.declared.outgoing.Outgoing.{Outgoing}
use Rattle.sm_manager.specs.declared.pending.Pending.{Pending}
use Rattle.sm_manager.specs.declared.pending.Purpose.{Purpose}
use Rattle.sm_manager.specs.declared.pending.Purpose.TheVariants as purpose
use Rattle.sm_manager.specs.declared.way.Way.{Way}
use Rattle.manager_laws.specs.WritingEnds.{HasLived}

abbrev pub IsInfo : Pending → Type 0
IsInfo p = is_step p ≡ false → p.attribute ≡ sm_info

abbrev pub InfoOnly : Manager → Type 0
InfoOnly m = AllByRecursion IsInfo m.pending

-- lists -----------------------------------------------------------------------------------------------------------------

all_without : (n : ℕ) (ps : List Pending) → AllByRecursion IsInfo ps → AllByRecursion IsInfo (without_number n ps)
all_without n [] all = tt
all_without n (p ∷ ps) all =
    cond_both (not (p.number == n)) (p ∷ without_number n ps) (without_number n ps) (AllByRecursion IsInfo)
    (λ _. (all.0, all_without n ps all.1)) (λ _. all_without n ps all.1)

all_both : (ps qs : List Pending) → AllByRecursion IsInfo ps → AllByRecursion IsInfo qs → AllByRecursion IsInfo (ps ++ qs)
all_both [] qs all more = more
all_both (p ∷ ps) qs all more = (all.0, all_both ps qs all.1 more)

all_steps : (c : Bool) (n : ℕ) (steps : List Step) → AllByRecursion IsInfo (numbered c n steps)
all_steps c n [] = tt
all_steps c n (s ∷ steps) = (λ e. absurd (cc), all_steps c (suc n) steps)

-- calls -----------------------------------------------------------------------------------------------------------------

module _ (m : Manager) (info : InfoOnly m) where
  abbrev Keeps : Called → Type 0
  Keeps c = InfoOnly c.manager

  unspent : (n : Manager) → InfoOnly n → Keeps (unless_spent m n)
  unspent n h = cond_both (is_spent n) (refused m SequenceSpent) (done n) Keeps (λ _. info) (λ _. h)

  tells : (x : Manager) (way : Option Way) (message : Option Message) → InfoOnly x → InfoOnly (after_message x way message)
  tells x None message h = h
  tells x (Some way) None h = h
  tells x (Some way) (Some message) h = all_both x.pending _ h (λ _. refl, tt)

  hands : (way : Option Way) → InfoOnly (handed_to m way)
  hands way = tells (record m { standing = moved_to (handover_move m).state m.standing }) way (handover_move m).message info

  taken : (packets : List Outgoing) → InfoOnly (taken_of m packets).manager
  taken [] = info
  taken (out ∷ packets) = info

  sends : (x : Manager) (w : Writing) → InfoOnly x → InfoOnly (phase_sent x w)
  sends x w h = all_both x.pending _ h (all_steps (next_phase w.later).counts x.counter (next_phase w.later).steps)

  steps : (p : Pending) (was_done : Bool) → InfoOnly (after_step m p was_done)
  steps p was_done = by_writing (noted (counts p) was_done m.writing)
    where
      x : Manager
      x = record m { pending = without_number p.number m.pending; writing = noted (counts p) was_done m.writing }

      here : InfoOnly x
      here = all_without p.number m.pending info

      by_writing : (o : Option Writing) → InfoOnly (went_on_with x o)
      by_writing None = here
      by_writing (Some w) = cond_both (no_step_waits x.pending) (phase_sent x w) x InfoOnly (λ _. sends x w here) (λ _. here)

  ends : (p : Pending) (answer : Option ℕ) (u : Purpose) → Keeps (after_request m p answer u)
  ends p answer purpose.Poll = all_without p.number m.pending info
  ends p answer purpose.Control = all_without p.number m.pending info
  ends p answer (purpose.Step c) = unspent (after_step m p (is_done_by answer)) (steps p (is_done_by answer))

  by_pending : (bytes : List ℕ) (o : Option Pending) → Keeps (request_answered m bytes o)
  by_pending bytes None = info
  by_pending bytes (Some p) = ends p (Some (status bytes)) p.purpose

  by_judged : (bytes : List ℕ) (s : Sweep) (r : Result Answer SweepFault) → Keeps (answered_by m s bytes r)
  by_judged bytes s (Err why) = info
  by_judged bytes s (Ok answer) = info

  by_sweep : (bytes : List ℕ) (o : Option Sweep) → Keeps (sweep_answered m bytes o)
  by_sweep bytes None = info
  by_sweep bytes (Some s) = by_judged bytes s (judged s bytes)

  serves : (bytes : List ℕ) (from : Option ℕ) → InfoOnly (served m bytes from)
  serves bytes from =
      cond_both (is_control m.standing bytes) (controlled m bytes from) (replying m bytes from) InfoOnly
      (λ _. tells (answering _ bytes from _) (acknowledged_by bytes from) _ info) (λ _. info)

  by_fault : (bytes : List ℕ) (from : Option ℕ) (fault : Option SmpFault) → Keeps (packet_taken m bytes from fault)
  by_fault bytes from (Some why) = info
  by_fault bytes from None =
      cond_both (is_info_request bytes) (unless_spent m (served m bytes from)) _ Keeps (λ _. unspent (served m bytes from) (serves bytes from))
      (λ _. cond_both (represses m bytes) (done (repressing m bytes from)) _ Keeps (λ _. info)
      (λ _. cond_both (is_for_sweep bytes) (sweep_answered m bytes m.sweep) (request_answered m bytes (pending_for m bytes)) Keeps
      (λ _. by_sweep bytes m.sweep) (λ _. by_pending bytes (pending_for m bytes))))

  sweep_lapses : (s : Sweep) (transaction : ℕ) (why : Option SweepFault) → Keeps (sweep_timed_out m s transaction why)
  sweep_lapses s transaction (Some why) = info
  sweep_lapses s transaction None = info

  by_lapse : (transaction : ℕ) (o : Option Sweep) → Keeps (sweep_gave_up m transaction o)
  by_lapse transaction None = info
  by_lapse transaction (Some s) = sweep_lapses s transaction (timeout_fault s transaction)

  gives_up : (o : Option Pending) → Keeps (request_gave_up m o)
  gives_up None = info
  gives_up (Some p) = ends p None p.purpose

  polls : (way : Option Way) → InfoOnly (polled_by m way)
  polls None = info
  polls (Some way) = all_both m.pending _ info (λ _. refl, tt)

  pub info_call : (call : Call) → InfoOnly (after_call m call)
  info_call Call.BeginSweep = cond_both (is_none (begin_fault m)) (after_begin_sweep m) m InfoOnly (λ _. info) (λ _. info)
  info_call Call.WriteSteps =
      cond_both (is_none (writing_fault m)) (after_write_steps m) m InfoOnly
      (λ _. sends m (record { later = without_empty_phases (phases_by m m.sweep); has_failed = false }) info) (λ _. info)
  info_call Call.Take = taken m.outgoing
  info_call (Call.Packet bytes from) = by_fault bytes from (fault_of bytes)
  info_call (Call.Timeout transaction) =
      cond_both (nat_le (2 ^ 32) transaction) (sweep_gave_up m transaction m.sweep) (request_gave_up m (with_number transaction m.pending)) Keeps
      (λ _. by_lapse transaction m.sweep) (λ _. gives_up (with_number transaction m.pending))
  info_call (Call.Raise floor) = info
  info_call (Call.Merge floor sightings) = info
  info_call (Call.Poll lid) = cond_both (is_none (poll_fault m lid)) (after_poll m lid) m InfoOnly (λ _. polls (poll_way m lid)) (λ _. info)
  info_call Call.Handover = cond_both (is_none (handover_fault m)) (after_handover m) m InfoOnly (λ _. hands (successor_way m)) (λ _. info)
  info_call Call.Yield = cond_both (is_none (yield_fault m)) (after_yield m) m InfoOnly (λ _. hands (heir_way m)) (λ _. info)
  info_call Call.Rediscover = cond_both (is_none (rediscover_fault m)) (after_rediscover m) m InfoOnly (λ _. info) (λ _. info)

info_calls : (calls : List Call) (m : Manager) → InfoOnly m → InfoOnly (after_calls calls m)
info_calls [] m info = info
info_calls (call ∷ calls) m info = info_calls calls (after_call m call) (info_call m info call)

-- so it is of each manager
pub lived_info : (m : Manager) → HasLived m → InfoOnly m
lived_info m h = subst InfoOnly h.are (info_calls h.calls _ tt)
