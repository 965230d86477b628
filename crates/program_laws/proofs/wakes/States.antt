-- Of the packets that ask something, only a control changes a manager's state.
use Rattle.std.proofs.Common.{◌≡◌, ◌∙◌, ℕ, Bool, true, false, cond, not, List, refl, sym, ap, arith}
use Rattle.std.proofs.lemmas.Bool.{and_parts, cond_both, eqb-true}
use Rattle.std.specs.Prelude.{◌==◌, Option, Some, None}
use Rattle.smp_bytes.specs.Field.{number_in}
use Rattle.smp_bytes.specs.Header.{get_resp, set, sm_info}
use Rattle.smp_bytes.specs.Packet.{attribute_id, fault_of, is_response, method}
use Rattle.smp_bytes.specs.declared.smp_fault.SmpFault.{SmpFault}
use Rattle.subnet_view.proofs.Apart.{found_there}
use Rattle.sm_state.specs.Conduct.{is_live}
use Rattle.sm_state.specs.Standing.{active_once_more, after_request_heard}
use Rattle.sm_state.specs.declared.standing.Standing.{Standing}
use Rattle.sm_manager.specs.CallLists.{Call, after_call}
use Rattle.sm_manager.specs.Manager.{Manager}
use Rattle.sm_manager.specs.Packets.{Called, answers, done, is_for_sweep, is_info_request, packet_taken, pending_for, request_answered, sweep_answered, unless_spent}
use Rattle.sm_manager.specs.SmInfoAnswers.{controlled, is_control as may_control, replying, served}
use Rattle.sm_manager.specs.Traps.{represses, repressing}
use Rattle.sm_manager.specs.Writing.{is_spent}
use Rattle.sm_manager.specs.declared.pending.Pending.{Pending}
use Rattle.program_laws.specs.Wakes.{is_control, one_if}
use Rattle.program_laws.proofs.wakes.Makes.{and_both, responds}

counted_state : (s : Standing) → (after_request_heard s).state ≡ s.state
counted_state s = cond_both (is_live s.conduct) (active_once_more s) s (λ (t : Standing). t.state ≡ s.state) (λ _. refl) (λ _. refl)

module _ (m : Manager) (bytes : List ℕ) (from : Option ℕ) (asks : is_response bytes ≡ false) (other : one_if (is_control bytes) ≡ 0) where
  abbrev StaysIn : Called → Type 0
  StaysIn c = c.manager.standing.state ≡ m.standing.state

  -- what has the method of an answer is one
  no_answer : (number_in method bytes == get_resp) ≡ true → ⊥
  no_answer e =
      let wrong : true ≡ false = sym (responds bytes (eqb-true (number_in method bytes) get_resp e)) ∙ asks in
      absurd (cc)

  serves : (number_in attribute_id bytes == sm_info) ≡ true → StaysIn (unless_spent m (served m bytes from))
  serves info =
      cond_both (is_spent (served m bytes from)) _ _ StaysIn (λ _. refl)
      (λ _. cond_both (may_control m.standing bytes) (controlled m bytes from) (replying m bytes from)
      (λ (x : Manager). x.standing.state ≡ m.standing.state)
      (λ may. absurd (control may)) (λ _. counted_state m.standing))
    where
      control : may_control m.standing bytes ≡ true → ⊥
      control may =
          let is : is_control bytes ≡ true = and_both (number_in method bytes == set) (number_in attribute_id bytes == sm_info)
          (and_parts (number_in method bytes == set) _ may).0 info in
          let wrong : 1 ≡ 0 = ap one_if (sym is) ∙ other in
          absurd (omega (arith, wrong))

  by_fault : (fault : Option SmpFault) → StaysIn (packet_taken m bytes from fault)
  by_fault (Some why) = refl
  by_fault None = by_tests (is_info_request bytes) (represses m bytes) (is_for_sweep bytes) refl refl
    where
      by_pending : (o : Option Pending) → pending_for m bytes ≡ o → StaysIn (request_answered m bytes o)
      by_pending None e = refl
      by_pending (Some p) e =
          let found = found_there (answers bytes) m.pending p e in
          absurd (no_answer (and_parts (number_in method bytes == get_resp) _ found.1).0)

      by_tests : (a t b : Bool) → is_info_request bytes ≡ a → is_for_sweep bytes ≡ b
          → StaysIn (cond a (unless_spent m (served m bytes from)) (cond t (done (repressing m bytes from))
          (cond b (sweep_answered m bytes m.sweep) (request_answered m bytes (pending_for m bytes)))))
      by_tests true t b e f = serves (and_parts (not (is_response bytes)) (number_in attribute_id bytes == sm_info) e).1
      by_tests false true b e f = refl
      by_tests false false true e f = absurd (no_answer (and_parts (number_in method bytes == get_resp) _ f).0)
      by_tests false false false e f = by_pending (pending_for m bytes) refl

-- a packet that asks something, and is no control, leaves the state as it is
pub state_stays : (m : Manager) (bytes : List ℕ) (from : Option ℕ) → is_response bytes ≡ false → one_if (is_control bytes) ≡ 0
    → (after_call m (Call.Packet bytes from)).standing.state ≡ m.standing.state
state_stays m bytes from asks other = by_fault m bytes from asks other (fault_of bytes)
