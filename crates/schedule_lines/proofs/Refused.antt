-- Calls of managers that are refused.
use Rattle.std.proofs.Common.{◌≡◌, ◌∙◌, ◌⊎◌, inl, inr, Bool, true, false, List, ℕ, Option, None, Some, Result, Ok, Err, refl, sym, ap, subst, ◌↔◌}
use Rattle.std.specs.Prelude.{if◌then◌else◌, OnOk}
use Rattle.smp_bytes.specs.Judges.{JudgesButFor}
use Rattle.sm_manager.specs.Fault.{is_memory}
use Rattle.sm_manager.specs.declared.fault.ManagerFault.{ManagerFault}
use Rattle.sm_manager.specs.declared.fault.ManagerFault.TheVariants as manager
use Rattle.schedule_lines.specs.Refusals.{manager_line}
use Rattle.schedule_lines.specs.Outcome.{Outcome, shows}
use Rattle.schedule_lines.specs.Prints.{PrintsUnless}
use Rattle.schedule_lines.specs.declared.run_fault.RunFault.{RunFault}
use Rattle.schedule_lines.specs.declared.run_fault.RunFault.TheVariants.{Memory}
use Rattle.schedule_lines.proofs.Printing.{ends_unprinted, failed_with, prints_same}

abbrev pub failed : ManagerFault → Result (Unit {0}) ManagerFault
failed fault = Err fault

pub memory_is : (fault : ManagerFault) → is_memory fault ≡ true → fault ≡ manager.Memory
memory_is manager.Memory e = refl
memory_is _ e = absurd (cc)

-- a refusal that is not lack of memory is the fault that there is
pub but_for_memory : (fault : ManagerFault) (why : Option ManagerFault) → JudgesButFor is_memory (failed fault) why
    → is_memory fault ≡ false → why ≡ Some fault
but_for_memory fault why judged e = judged ∙ ap (λ b. if b then None else Some fault) e

-- memory was refused, or all that a call does is to print the line of its refusal
pub Refuses : {S : Type 0} → ManagerFault → S → Outcome S → Type 0
Refuses fault s run = (fault ≡ manager.Memory) ⊎ (run ≡ shows (manager_line fault) s)

pub refuses : {S : Type 0} (fault : ManagerFault) (why : Option ManagerFault) (s : S) (run : Option ManagerFault → Outcome S)
    → ((fault : ManagerFault) → run (Some fault) ≡ shows (manager_line fault) s) → (is_memory fault ≡ false → why ≡ Some fault)
    → Refuses fault s (run why)
unfolding Refuses
refuses fault why s run told is =
    elim (is_memory fault) as (λ b. is_memory fault ≡ b → (fault ≡ manager.Memory) ⊎ (run why ≡ shows (manager_line fault) s)) [
      | true ↦ λ e. inl (memory_is fault e)
      | false ↦ λ e. inr (ap run (is e) ∙ told fault)
    ] refl

abbrev pub IsMemory : Result (Unit {0}) RunFault → ManagerFault → Type 0
IsMemory result fault = (result ≡ failed_with Memory) ↔ (fault ≡ manager.Memory)

-- such a call prints what it comes to
pub refusal_prints : {W : Type 0} (written : W → Option (List ℕ)) (has_failed : W → Bool) {S : Type 0} (fault : ManagerFault) (s : S) (run : Outcome S)
    (result : Result (Unit {0}) RunFault) (old new : W) → Refuses fault s run → IsMemory result fault
    → PrintsUnless written has_failed result old new (manager_line fault) → (fault ≡ manager.Memory → new ≡ old)
    → PrintsUnless written has_failed result old new run.text
unfolding Refuses
refusal_prints written has_failed fault s run result old new refused memory prints unprinted =
    elim refused [
      | inl e ↦ subst (λ (r : Result (Unit {0}) RunFault). PrintsUnless written has_failed r old new run.text) (sym (memory.1 e))
          (ends_unprinted written has_failed old new run.text (unprinted e))
      | inr e ↦ prints_same written has_failed result old new (manager_line fault) run.text (ap (λ r. r.text) (sym e)) prints
    ]

-- and leaves it
pub refusal_leaves : {S : Type 0} (fault : ManagerFault) (s now : S) (run : Outcome S) (result : Result (Unit {0}) RunFault) → Refuses fault s run
    → IsMemory result fault → now ≡ s → OnOk result (now ≡ run.now)
unfolding Refuses
refusal_leaves fault s now run (Err other) refused memory same = tt
refusal_leaves fault s now run (Ok u) refused memory same =
    elim refused [
      | inl e ↦ absurd (is_no_fault u (memory.1 e))
      | inr e ↦ same ∙ ap (λ r. r.now) (sym e)
    ]
  where
    is_no_fault : (u : Unit {0}) → ◌≡◌ {A = Result (Unit {0}) RunFault} (Ok u) (Err Memory) → ⊥
    is_no_fault u e = cc

pub leaves_same : {S : Type 0} (result : Result (Unit {0}) RunFault) (now : S) (run other : Outcome S) → other ≡ run → OnOk result (now ≡ other.now)
    → OnOk result (now ≡ run.now)
leaves_same {S} result now run other e h = subst (λ (r : Outcome S). OnOk result (now ≡ r.now)) e h
