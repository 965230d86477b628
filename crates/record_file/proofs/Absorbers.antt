-- What an absorber returns, given what it waits for.
use Rattle.std.proofs.Common.{◌≡◌, ℕ, ◌<◌, ◌^◌, ◌==◌, false, cond, List, [], ◌∷◌, ◌++◌, Result, Ok, Err, length, refl, sym, ap, ◌∙◌, subst, arith}
use Rattle.std.proofs.lemmas.Bool.Decides.{nat_tests}
use Rattle.fact_store.specs.View.{Facts}
use Rattle.record_file.specs.declared.awaited.Awaited.{Awaited}
use Rattle.record_file.specs.declared.awaited.Awaited.TheVariants as awaited
use Rattle.record_file.specs.declared.file_fault.FileFault.{FileFault}
use Rattle.record_file.specs.declared.file_fault.FileFault.TheVariants.{Truncated}
use Rattle.record_file.specs.Feeding.{Absorbing, Awaits, FeedsBehind, FeedsPiece, Finishes, IsInReach, TakesPiece, WasFed, ending_at}
use Rattle.record_file.specs.Reading.{outcome}
use Rattle.record_file.proofs.Records.{bytes_of}
use Rattle.record_file.proofs.Pieces.{length-awaits, outcome-cut, outcome-header, outcome-magic, outcome-whole, so_far-none}

one_awaited : (a : Absorbing) (w v : Awaited) → a.awaited ≡ Ok w → a.awaited ≡ Ok v → v ≡ w
one_awaited a w v h k = let e : ◌≡◌ {A = Result Awaited FileFault} (Ok v) (Ok w) = sym k ∙ h in cc

-- what it waits for is awaited behind what it was fed
awaits-fed : (a : Absorbing) (w : Awaited) (fed : List ℕ) → a.awaited ≡ Ok w → WasFed a fed → Awaits w a.part fed
awaits-fed a w fed is h =
    let P : Awaited → Type 0 = λ v. Awaits v a.part fed in subst P (one_awaited a w h.awaited is h.goes_on) h.awaits

not-stopped : (a : Absorbing) (w : Awaited) (fault : FileFault) → a.awaited ≡ Ok w → a.awaited ≡ Err fault → ⊥
not-stopped a w fault h k = let e : ◌≡◌ {A = Result Awaited FileFault} (Ok w) (Err fault) = sym h ∙ k in absurd (cc)

-- what is answered where that is awaited next
abbrev pub answer_of : Result Awaited FileFault → Result (Unit {0}) FileFault
answer_of (Ok next) = Ok tt
answer_of (Err fault) = Err fault

goes_on : (a b : Absorbing) (w : Awaited) (piece : List ℕ) (r : Result Awaited FileFault) (s t : Facts) → a.awaited ≡ Ok w → b.awaited ≡ r
    → IsInReach r b.part → TakesPiece w a.part piece r b.part s t → (fed : List ℕ) → WasFed a fed → FeedsBehind fed piece (answer_of r) b s t
goes_on a b w piece (Ok next) s t is now reach takes fed h =
    let here = takes fed (awaits-fed a w fed is h) in
    let short : length (fed ++ piece) < 2 ^ 40 = omega (arith, reach.1, length-awaits next b.part (fed ++ piece) here.0) in
    (record { awaited = next; goes_on = now; awaits = here.0; short = short }, so_far-none next b.part (fed ++ piece) here.0 short, here.1)
goes_on a b w piece (Err fault) s t is now reach takes fed h = (now, takes fed (awaits-fed a w fed is h))

pub feeds : (a b : Absorbing) (w : Awaited) (piece : List ℕ) (r : Result Awaited FileFault) (s t : Facts) → a.awaited ≡ Ok w → b.awaited ≡ r
    → IsInReach r b.part → TakesPiece w a.part piece r b.part s t → FeedsPiece a piece (answer_of r) b s t
feeds a b w piece r s t is now reach takes = record {
  goes_on = goes_on a b w piece r s t is now reach takes;
  stays = λ fault h. absurd (not-stopped a w fault is h);
}

-- the end -----------------------------------------------------------------------------

ends-as : (w : Awaited) (part fed : List ℕ) → Awaits w part fed → length fed < 2 ^ 40 → ending_at w (length part) ≡ outcome fed
ends-as awaited.Magic part fed h short = sym (outcome-magic part fed h)
ends-as awaited.Header part fed h short = sym (outcome-header part fed h)
ends-as (awaited.Record format index last) [] fed b short = sym (outcome-whole format index last [] fed b short refl)
ends-as (awaited.Record format index last) (x ∷ xs) fed b short =
    let some : length (x ∷ xs) == 0 ≡ false = grind (arith, nat_tests) in
    ap (λ t. cond t (Ok tt) (Err (Truncated (bytes_of format index)))) some
    ∙ sym (outcome-cut format index last (x ∷ xs) fed b short (omega arith))

pub finishes : (a : Absorbing) (w : Awaited) → a.awaited ≡ Ok w → Finishes a (ending_at w (length a.part))
finishes a w is = record {
  ends = λ fed h. ends-as w a.part fed (awaits-fed a w fed is h) h.short;
  stays = λ fault h. absurd (not-stopped a w fault is h);
}
