-- Texts that are printed one after the other, and how much of them is printed if a run ends early.
use Rattle.std.proofs.Common.{◌≡◌, ◌∙◌, ℕ, Bool, List, [], ◌++◌, Option, Result, Err, refl, sym, ap, subst}
use Rattle.std.specs.Prelude.{OnOk}
use Rattle.byte_io.specs.Prints.{Prints}
use Rattle.byte_io.proofs.Writing.{IsPartWritten, ends_early_in, nothing_early, part_all, part_more, part_none, prints_then as then_up_to}
use Rattle.schedule_lines.specs.Prints.{PrintsUnless, is_write}
use Rattle.schedule_lines.specs.Outcome.{Outcome, quiet, and_then}
use Rattle.schedule_lines.specs.declared.run_fault.RunFault.{RunFault}
use Rattle.schedule_lines.specs.declared.run_fault.RunFault.TheVariants.{Memory}

-- the fault of a call, as that of the call around it
abbrev pub failed_with : RunFault → Result (Unit {0}) RunFault
failed_with fault = Err fault

module _ {W : Type 0} (written : W → Option (List ℕ)) (has_failed : W → Bool) where
  -- one text, and then another that may not be printed whole
  pub prints_then : {T : Type 0} (result : Result T RunFault) (old mid new : W) (a b : List ℕ) → Prints written has_failed old mid a
      → PrintsUnless written has_failed result mid new b → PrintsUnless written has_failed result old new (a ++ b)
  prints_then result old mid new a b p q = then_up_to written has_failed is_write result old mid new a b p q

  -- a run that ends in a text ends in that text and more
  pub ends_in : (fault : RunFault) (old new : W) (a b : List ℕ) → PrintsUnless written has_failed (failed_with fault) old new a
      → PrintsUnless written has_failed (failed_with fault) old new (a ++ b)
  ends_in fault old new a b p = ends_early_in written has_failed (is_write fault) old new a b p

  -- the same text
  pub prints_same : {T : Type 0} (result : Result T RunFault) (old new : W) (a b : List ℕ) → a ≡ b
      → PrintsUnless written has_failed result old new a → PrintsUnless written has_failed result old new b
  prints_same result old new a b e p = subst (λ (t : List ℕ). PrintsUnless written has_failed result old new t) e p

  -- memory was refused before anything was printed
  pub ends_unprinted : (old new : W) (text : List ℕ) → new ≡ old
      → PrintsUnless written has_failed (failed_with Memory) old new text
  ends_unprinted old new text e = nothing_early written has_failed old new text e

  -- part of a run is over: its text was printed, and what is left comes to the same
  pub record IsUnderWay {S : Type 0} (old now : W) (whole left : Outcome S) : Type 0 where
    pub printed : IsPartWritten written has_failed old now left.text whole.text
    pub same : left.now ≡ whole.now

  -- nothing of it is over
  pub begins : {S : Type 0} (now : W) (whole : Outcome S) → IsUnderWay now now whole whole
  begins now whole = record { printed = part_none written has_failed now whole.text; same = refl }

  -- a further part is over
  pub goes_on : {S : Type 0} (old mid now : W) (whole : Outcome S) (part : Outcome S) (next : S → Outcome S) → IsUnderWay old mid whole (and_then part next)
      → Prints written has_failed mid now part.text → IsUnderWay old now whole (next part.now)
  goes_on old mid now whole part next h p = record {
    printed = part_more written has_failed old mid now (and_then part next).text (next part.now).text whole.text part.text h.printed refl p;
    same = h.same;
  }

  -- a part ends it
  pub stops_in : {S : Type 0} (fault : RunFault) (old mid new : W) (whole : Outcome S) (part : Outcome S) (next : S → Outcome S)
      → IsUnderWay old mid whole (and_then part next)
      → PrintsUnless written has_failed (failed_with fault) mid new part.text
      → PrintsUnless written has_failed (failed_with fault) old new whole.text
  stops_in fault old mid new whole part next h p =
      prints_same (failed_with fault) old new _ _ h.printed.parts
      (prints_then (failed_with fault) old mid new h.printed.part (part.text ++ (next part.now).text) h.printed.prints
      (ends_in fault mid new part.text (next part.now).text p))

  -- what is left prints nothing
  pub is_over : {S : Type 0} (old now : W) (whole left : Outcome S) → IsUnderWay old now whole left → left.text ≡ []
      → Prints written has_failed old now whole.text
  is_over old now whole left h e = part_all written has_failed old now left.text whole.text h.printed e

  -- what is left is its last part
  pub ends_with : {S T : Type 0} (result : Result T RunFault) (old mid new : W) (whole left : Outcome S) → IsUnderWay old mid whole left
      → PrintsUnless written has_failed result mid new left.text → PrintsUnless written has_failed result old new whole.text
  ends_with result old mid new whole left h p =
      prints_same result old new _ _ h.printed.parts (prints_then result old mid new h.printed.part left.text h.printed.prints p)

  -- a run is over, and then comes what is next
  pub then_prints : {S T : Type 0} (result : Result T RunFault) (old mid new : W) (whole left : Outcome S) (s : S) (next : S → Outcome S)
      → IsUnderWay old mid whole left → left ≡ quiet s → PrintsUnless written has_failed result mid new (next s).text
      → PrintsUnless written has_failed result old new (and_then whole next).text
  then_prints result old mid new whole left s next h e p =
      let same : s ≡ whole.now = ap (λ r. r.now) (sym e) ∙ h.same in
      prints_then result old mid new whole.text (next whole.now).text (is_over old mid whole left h (ap (λ r. r.text) e))
      (prints_same result mid new _ _ (ap (λ s. (next s).text) same) p)

  pub then_leaves : {S T : Type 0} (result : Result T RunFault) (old mid : W) (now : S) (whole left : Outcome S) (s : S) (next : S → Outcome S)
      → IsUnderWay old mid whole left → left ≡ quiet s → OnOk result (now ≡ (next s).now) → OnOk result (now ≡ (and_then whole next).now)
  then_leaves result old mid now whole left s next h e p =
      let same : s ≡ whole.now = ap (λ r. r.now) (sym e) ∙ h.same in
      subst (λ s. OnOk result (now ≡ (next s).now)) same p

  -- a part ends it, whatever would have come next
  pub stops_before : {S : Type 0} (fault : RunFault) (old mid new : W) (whole : Outcome S) (part : Outcome S) (next later : S → Outcome S)
      → IsUnderWay old mid whole (and_then part next) → PrintsUnless written has_failed (failed_with fault) mid new part.text
      → PrintsUnless written has_failed (failed_with fault) old new (and_then whole later).text
  stops_before fault old mid new whole part next later h p =
      ends_in fault old new whole.text (later whole.now).text (stops_in fault old mid new whole part next h p)
