-- GUIDs as the numbers of words are read.
use Rattle.std.proofs.Common.{◌≡◌, ℕ, ◌-◌, ◌==◌, ◌<◌, ◌≤◌, ◌^◌, true, false, leb, List, ◌++◌, length, min, None, Some, Option, Ok, Err, refl, ◌∙◌, arith}
use Rattle.std.specs.Prelude.{codes, option_map}
use Rattle.text_words.specs.Numbers.{number_of, guid_of}
use Rattle.text_words.proofs.Digits.{guid_is, is_within, not_within}
use Rattle.roots_file.specs.Line.{guid_by}
use Rattle.roots_file.specs.declared.roots_text_fault.RootsTextError.TheVariants as wrong

-- up to sixteen digits are a number
digits_are : (digits : List ℕ) (n : ℕ) → length digits ≤ 16 → Some n ≡ option_map (min (2 ^ 64 - 1)) (number_of 16 digits) → Some n ≡ number_of 16 digits
digits_are digits n few e =
    let within : leb (length (codes "0x" ++ digits)) 18 ≡ true = is_within (length (codes "0x" ++ digits)) 18 (omega arith) in
    let same : guid_of (codes "0x" ++ digits) ≡ number_of 16 digits = rw within refl in
    guid_is (codes "0x" ++ digits) digits n refl refl (omega arith) few e ∙ same

-- which is a GUID where it is not 0
pub whole : (digits : List ℕ) (n : ℕ) → length digits ≤ 16 → (n == 0) ≡ false → Some n ≡ option_map (min (2 ^ 64 - 1)) (number_of 16 digits)
    → Ok n ≡ guid_by digits (number_of 16 digits)
whole digits n few some e =
    let within : leb (length digits) 16 ≡ true = is_within (length digits) 16 few in
    rw (← digits_are digits n few e, within, some) refl

number_there : (o : Option ℕ) (most n : ℕ) → Some n ≡ option_map (min most) o → (m : ℕ) × (o ≡ Some m) × (n ≡ min most m)
number_there None most n e = absurd (cc)
number_there (Some m) most n e = (m, refl, cc)

-- more digits, or 0, are none
pub long : (digits : List ℕ) (n : ℕ) → 16 < length digits → Some n ≡ option_map (min (2 ^ 64 - 1)) (number_of 16 digits)
    → Err wrong.Guid ≡ guid_by digits (number_of 16 digits)
long digits n many e =
    let past : leb (length digits) 16 ≡ false = not_within (length digits) 16 many in
    let there = number_there (number_of 16 digits) (2 ^ 64 - 1) n e in
    rw (there.1, past) refl

pub zero_is_none : (digits : List ℕ) (n : ℕ) → length digits ≤ 16 → (n == 0) ≡ true → Some n ≡ option_map (min (2 ^ 64 - 1)) (number_of 16 digits)
    → Err wrong.Guid ≡ guid_by digits (number_of 16 digits)
zero_is_none digits n few none e =
    let within : leb (length digits) 16 ≡ true = is_within (length digits) 16 few in
    rw (← digits_are digits n few e, within, none) refl

-- and words that are no digits
pub no_digits : (digits : List ℕ) → None ≡ option_map (min (2 ^ 64 - 1)) (number_of 16 digits) → Err wrong.Syntax ≡ guid_by digits (number_of 16 digits)
no_digits digits e =
    elim (number_of 16 digits) as (λ o. None ≡ option_map (min (2 ^ 64 - 1)) o → Err wrong.Syntax ≡ guid_by digits o) [
      | None ↦ λ f. refl
      | Some m ↦ λ f. absurd (cc)
    ] e
