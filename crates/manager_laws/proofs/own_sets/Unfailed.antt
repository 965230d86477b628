-- By a call no step that counts fails, if each that ends by it was done.
use Rattle.std.proofs.Common.{◌≡◌, Bool, true, false, refl, sym, ap, ◌∙◌, subst}
use Rattle.std.proofs.lemmas.Bool.{cond_both}
use Rattle.std.proofs.lemmas.Option.{same_Some}
use Rattle.std.specs.Prelude.{Contains, Option, Some, None, not, ◌&&◌, ◌||◌}
use Rattle.sm_manager.specs.declared.pending.Pending.{Pending}
use Rattle.sm_manager.specs.CallLists.{Call, after_call}
use Rattle.sm_manager.specs.Manager.{Manager, Writing}
use Rattle.sm_manager.specs.ManagerRequests.{counts, is_step, no_step_waits, without_number}
use Rattle.sm_manager.specs.StepsAnswered.{BeginsNone}
use Rattle.sm_manager.specs.Writing.{after_step, noted, phase_sent, went_on_with}
use Rattle.manager_laws.specs.WritingEnds.{IsEndOf}
use Rattle.manager_laws.proofs.writing_ends.Effects.{Besides, Begun, Effect, Over, Says, effect}
use Rattle.manager_laws.proofs.writing_ends.Turns.{marked, over_by}

-- no step that counts has failed
abbrev pub IsUnfailed : Option Writing → Type 0
IsUnfailed o = (v : Writing) → o ≡ Some v → v.has_failed ≡ false

step_unfailed : (m : Manager) (p : Pending) (was_done : Bool) → (counts p && not was_done) ≡ false → IsUnfailed m.writing
    → IsUnfailed (after_step m p was_done).writing
step_unfailed m p was_done ended good = by_writing m.writing good
  where
    still : (u v : Writing) → u.has_failed ≡ false → Some (marked p was_done u) ≡ Some v → v.has_failed ≡ false
    still u v before e = ap (λ (x : Writing). x.has_failed) (sym (same_Some (marked p was_done u) v e)) ∙ (λ j. before j || ended j)

    by_writing : (o : Option Writing) → IsUnfailed o → IsUnfailed (went_on_with (over_by m p was_done o) (noted (counts p) was_done o)).writing
    by_writing None before v e = absurd (cc)
    by_writing (Some u) before v e =
        cond_both (no_step_waits (without_number p.number m.pending)) (phase_sent (over_by m p was_done (Some u)) (marked p was_done u))
        (over_by m p was_done (Some u)) (λ (x : Manager). x.writing ≡ Some v → v.has_failed ≡ false)
        (λ _ h. ap (λ (x : Writing). x.has_failed) (sym (same_Some _ v h)) ∙ (λ j. before u refl j || ended j)) (λ _ h. still u v (before u refl) h) e

pub call_unfailed : (m : Manager) (call : Call) → BeginsNone m call
    → ((p : Pending) → Contains m.pending p → is_step p ≡ true → IsEndOf p call → (was_done : Bool) → Says call was_done → (counts p && not was_done) ≡ false)
    → IsUnfailed m.writing → IsUnfailed (after_call m call).writing
call_unfailed m call none each good = by_effect (after_call m call) (effect m call)
  where
    by_effect : (after : Manager) → Effect m call after → IsUnfailed after.writing
    by_effect after (Besides b) = subst IsUnfailed (sym b.writing) good
    by_effect after (Over o) =
        subst (λ (x : Manager). IsUnfailed x.writing) (sym o.is)
        (step_unfailed m o.p o.was_done (each o.p o.there o.step o.ends o.was_done o.says) good)
    by_effect after (Begun b) = absurd (b.begins none)
