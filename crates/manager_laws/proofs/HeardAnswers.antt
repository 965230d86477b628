-- A packet that comes back to a manager and answers a step that waits is the answer to this step's Set.
use Rattle.std.proofs.Common.{◌≡◌, ◌⊎◌, inl, inr, ℕ, ◌/◌, ◌%◌, ◌<◌, ◌≤◌, ◌^◌, Bool, true, false, List, length, refl, sym, ap, ◌∙◌, arith}
use Rattle.std.proofs.lemmas.Bool.{and_parts, eqb-true, leb-false}
use Rattle.std.specs.Prelude.{Contains, Some, nat_le, ◌==◌, ◌&&◌}
use Rattle.fabric_model.specs.declared.cable.NodePort.{NodePort}
use Rattle.smp_bytes.specs.Answers as smp
use Rattle.smp_bytes.specs.Header.{get_resp, sm_info}
use Rattle.smp_bytes.specs.Field.{number_in}
use Rattle.smp_bytes.specs.Packet.{attribute_id, attribute_modifier, hop_count, is_directed, is_response, method, status, transaction_id}
use Rattle.smp_bytes.proofs.BitLaws.{byte-number_in}
use Rattle.dr_forward.proofs.Trips.{field_kept}
use Rattle.fabric_sim.specs.Simulation.{Simulation}
use Rattle.fabric_sim.proofs.Traced.{IsRequestFor, IsAnswerFor, IsForManager}
use Rattle.lft_blocks.specs.Plan.{PlanValue}
use Rattle.sm_manager.specs.Packets.{answers, is_for_sweep}
use Rattle.manager_laws.proofs.Numbered.{pending_of}
use Rattle.manager_laws.proofs.Returned.{same_status}
use Rattle.manager_laws.proofs.Scenes.{Sends, Tells, AnswersStep, IsOld}
use Rattle.manager_laws.proofs.Steps.{StepSent}

-- an answer has its R bit
responds : (bytes : List ℕ) → number_in method bytes ≡ get_resp → is_response bytes ≡ true
responds bytes e = ap (λ b. b / 2 ^ 7 % 2 ^ 1 == 1) (sym (byte-number_in 3 bytes) ∙ e)

module _ (start : Simulation) (seat : NodePort) (plan : PlanValue) (c : ℕ) (all : List StepSent) where
  -- the answer to the step, with the status that came
  pub record IsAnswerTo (s : Simulation) (x : StepSent) (bytes : List ℕ) : Type 0 where
    pub answer : List ℕ
    pub told : AnswersStep start seat plan c all s answer
    pub same : told.step ≡ x
    pub status_is : status answer ≡ status bytes

  pub is_answer_to : (s : Simulation) (bytes : List ℕ) (x : StepSent)
      → ((x y : StepSent) → Contains all x → Contains all y → x.number ≡ y.number → x ≡ y) → ((x : StepSent) → Contains all x → c ≤ x.number)
      → Contains all x → (x.step.attribute ≡ sm_info → ⊥)
      → IsForManager (Sends start seat plan c all) (Tells start seat plan c all s) start seat bytes → answers bytes (pending_of x) ≡ true
      → is_for_sweep bytes ≡ false → IsAnswerTo s x bytes
  is_answer_to s bytes x once least there no_info is answers_it no_sweep =
      elim (is.course is_way) [
        | inl r ↦ absurd (cc (sym (asks r) ∙ responds bytes resp))
        | inr r ↦ by_answer r (r.is.tells refl)
      ]
    where
      outer : ((number_in method bytes == get_resp) ≡ true) × (smp.answers bytes x.number x.step.attribute x.step.modifier (Some x.step.path) ≡ true)
      outer =
          and_parts (number_in method bytes == get_resp) (smp.answers bytes x.number x.step.attribute x.step.modifier (Some x.step.path)) answers_it

      resp : number_in method bytes ≡ get_resp
      resp = eqb-true _ _ outer.0

      inner : ((x.number == number_in transaction_id bytes) ≡ true) × (smp.is_of bytes x.step.attribute x.step.modifier (Some x.step.path) ≡ true)
      inner = and_parts (x.number == number_in transaction_id bytes) (smp.is_of bytes x.step.attribute x.step.modifier (Some x.step.path)) outer.1

      number : number_in transaction_id bytes ≡ x.number
      number = sym (eqb-true _ _ inner.0)

      by_attribute : ((number_in attribute_id bytes == x.step.attribute) ≡ true)
          × ((number_in attribute_modifier bytes == x.step.modifier && smp.goes_by bytes (Some x.step.path)) ≡ true)
      by_attribute =
          and_parts (number_in attribute_id bytes == x.step.attribute)
          (number_in attribute_modifier bytes == x.step.modifier && smp.goes_by bytes (Some x.step.path)) inner.1

      is_way : is_directed bytes ≡ true
      is_way =
          let by_modifier = and_parts (number_in attribute_modifier bytes == x.step.modifier) (smp.goes_by bytes (Some x.step.path)) by_attribute.1 in
          (and_parts (is_directed bytes) (number_in hop_count bytes == length x.step.path && smp.has_ports bytes 1 x.step.path) by_modifier.1).0

      low : number_in transaction_id bytes < 2 ^ 32
      low = leb-false _ _ (by_tests (number_in method bytes == get_resp) (is_directed bytes)
          (nat_le (2 ^ 32) (number_in transaction_id bytes)) outer.0 is_way no_sweep)
        where
          by_tests : (a b d : Bool) → a ≡ true → b ≡ true → (a && (b && d)) ≡ false → d ≡ false
          by_tests true true d e f h = h
          by_tests true false d e f h = absurd (cc)
          by_tests false b d e f h = absurd (cc)

      asks : IsRequestFor (Sends start seat plan c all) (Tells start seat plan c all s) start seat bytes → is_response bytes ≡ false
      asks r = ap (λ b. b / 2 ^ 7 % 2 ^ 1 == 1) (r.bytes_are.kept 3 (inl (omega arith))) ∙ r.over.asks

      by_answer : (r : IsAnswerFor (Sends start seat plan c all) (Tells start seat plan c all s) start seat bytes)
          → IsOld start seat plan c all r.answer ⊎ AnswersStep start seat plan c all s r.answer → IsAnswerTo s x bytes
      by_answer r told =
          let kept : number_in transaction_id bytes ≡ number_in transaction_id r.answer = field_kept transaction_id r.answer bytes
          (inr (omega arith, omega arith)) r.kept in
          let from = least x there in
          elim told [
            | inl old ↦ elim old [
              | inl below ↦ absurd (omega (arith, below, kept, number, from))
              | inr (inl above) ↦ absurd (omega (arith, above, kept, low))
              | inr (inr info) ↦ absurd (no_info (sym (eqb-true _ _ by_attribute.0)
                  ∙ field_kept attribute_id r.answer bytes (inr (omega arith, omega arith)) r.kept ∙ info))
            ]
            | inr a ↦ record {
              answer = r.answer;
              told = a;
              same = once a.step x a.there there (sym a.number ∙ sym kept ∙ number);
              status_is = sym (same_status (Sends start seat plan c all) (Tells start seat plan c all s) start seat bytes r);
            }
          ]
