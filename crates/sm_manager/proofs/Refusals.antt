-- A packet or a timeout that is refused leaves the manager as it was.
use Rattle.std.proofs.Common.{◌≡◌, ℕ, List, refl}
use Rattle.std.proofs.lemmas.Bool.{cond_both}
use Rattle.std.specs.Prelude.{◌^◌, nat_le, Option, Some, None, Result, Ok, Err}
use Rattle.smp_bytes.specs.Packet.{status}
use Rattle.smp_bytes.specs.declared.smp_fault.SmpFault.{SmpFault}
use Rattle.sweep.specs.declared.answer.Answer.{Answer}
use Rattle.sweep.specs.declared.fault.SweepFault.{SweepFault}
use Rattle.sweep.specs.Replies.{judged}
use Rattle.sweep.specs.Sweep.{Sweep, timeout_fault}
use Rattle.sm_manager.specs.declared.fault.ManagerFault.{ManagerFault}
use Rattle.sm_manager.specs.declared.fault.ManagerFault.TheVariants.{SequenceSpent}
use Rattle.sm_manager.specs.declared.pending.Pending.{Pending}
use Rattle.sm_manager.specs.declared.pending.Purpose.{Purpose}
use Rattle.sm_manager.specs.declared.pending.Purpose.TheVariants as purpose
use Rattle.sm_manager.specs.Manager.{Manager}
use Rattle.sm_manager.specs.ManagerRequests.{with_number}
use Rattle.sm_manager.specs.Packets.{Called, after_request, after_timeout, answered_by, done, is_for_sweep, is_info_request, packet_taken}
use Rattle.sm_manager.specs.Packets.{pending_for, refused, request_answered, request_gave_up, sweep_answered, sweep_gave_up, sweep_timed_out, unless_spent}
use Rattle.sm_manager.specs.SmInfoAnswers.{served}
use Rattle.sm_manager.specs.Traps.{represses, repressing}
use Rattle.sm_manager.specs.Writing.{is_spent}

-- a refusal leaves this manager
abbrev pub RefusalLeaves : Manager → Called → Type 0
RefusalLeaves m called = (why : ManagerFault) → called.fault ≡ Some why → called.manager ≡ m

pub done_leaves : (m after : Manager) → RefusalLeaves m (done after)
done_leaves m after why e = absurd (cc)

unless_leaves : (m after : Manager) → RefusalLeaves m (unless_spent m after)
unless_leaves m after = cond_both (is_spent after) (refused m SequenceSpent) (done after) (RefusalLeaves m) (λ _ why e. refl) (λ _. done_leaves m after)

module _ (m : Manager) where
  over_leaves : (p : Pending) (answer : Option ℕ) (of : Purpose) → RefusalLeaves m (after_request m p answer of)
  over_leaves p answer purpose.Poll = done_leaves m _
  over_leaves p answer purpose.Control = done_leaves m _
  over_leaves p answer (purpose.Step counts) = unless_leaves m _

  given_up_leaves : (p : Option Pending) → RefusalLeaves m (request_gave_up m p)
  given_up_leaves None = λ why e. refl
  given_up_leaves (Some p) = over_leaves p None p.purpose

  timed_out_leaves : (s : Sweep) (transaction : ℕ) (fault : Option SweepFault) → RefusalLeaves m (sweep_timed_out m s transaction fault)
  timed_out_leaves s transaction (Some why) = λ why e. refl
  timed_out_leaves s transaction None = done_leaves m _

  gave_up_leaves : (transaction : ℕ) (s : Option Sweep) → RefusalLeaves m (sweep_gave_up m transaction s)
  gave_up_leaves transaction None = λ why e. refl
  gave_up_leaves transaction (Some s) = timed_out_leaves s transaction (timeout_fault s transaction)

  pub timeout_leaves : (transaction : ℕ) → RefusalLeaves m (after_timeout m transaction)
  timeout_leaves transaction =
      cond_both (nat_le (2 ^ 32) transaction) _ _ (RefusalLeaves m) (λ _. gave_up_leaves transaction m.sweep)
      (λ _. given_up_leaves (with_number transaction m.pending))

  module _ (bytes : List ℕ) where
    answer_leaves : (s : Sweep) (r : Result Answer SweepFault) → RefusalLeaves m (answered_by m s bytes r)
    answer_leaves s (Ok answer) why e = absurd (cc)
    answer_leaves s (Err fault) why e = refl

    reply_leaves : (s : Option Sweep) → RefusalLeaves m (sweep_answered m bytes s)
    reply_leaves None = λ why e. refl
    reply_leaves (Some s) = answer_leaves s (judged s bytes)

    request_leaves : (p : Option Pending) → RefusalLeaves m (request_answered m bytes p)
    request_leaves None = λ why e. refl
    request_leaves (Some p) = over_leaves p (Some (status bytes)) p.purpose

    pub packet_leaves : (from : Option ℕ) (fault : Option SmpFault) → RefusalLeaves m (packet_taken m bytes from fault)
    packet_leaves from (Some fault) = λ why e. refl
    packet_leaves from None =
        cond_both (is_info_request bytes) _ _ (RefusalLeaves m) (λ _. unless_leaves m (served m bytes from))
        (λ _. cond_both (represses m bytes) _ _ (RefusalLeaves m) (λ _. done_leaves m (repressing m bytes from))
        (λ _. cond_both (is_for_sweep bytes) _ _ (RefusalLeaves m) (λ _. reply_leaves m.sweep) (λ _. request_leaves (pending_for m bytes))))
