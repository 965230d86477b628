-- A word that the parser accepts is a number.
use Rattle.std.proofs.Common.{◌≡◌, ℕ, zero, suc, ◌≤◌, Bool, true, false, cond, List, drop, Some, refl, arith, ap, ◌∙◌}
use Rattle.std.proofs.Common.{T, leb, pos, FitsSigned, w64, ◌≤ℤ◌}
use Rattle.std.specs.Prelude.{is_some, option_and_then, if◌then◌else◌, neg_ℤ}
use Rattle.std.specs.Str.Parse.{IsNumeral, digits_value, starts_with_minus, without_leading_plus}
use Rattle.std.proofs.lemmas.Bool.{leb-true}
use Rattle.clap.specs.Values.{IsSignedIn}
use Rattle.text_words.specs.Numbers.{number_of}
use Rattle.text_words.proofs.Digits.{is_within}
use Rattle.text_words.proofs.NumbersPrinted.{number_from}
use Rattle.cli_task.specs.OptionValues.{number_in, within}

-- a test that passed
told : (b : Bool) → T b → b ≡ true
told true t = refl
told false t = absurd t

below : (a b : ℕ) → pos a ≤ℤ pos b → a ≤ b
below a b h = leb-true a b (told (leb a b) h.le)

pub some_within : (least most n : ℕ) → least ≤ n → n ≤ most → within least most n ≡ Some n
some_within least most n low high = rw (is_within least n low, is_within n most high) refl

module _ (least most : ℕ) where
  plain : (ds : List ℕ) → IsNumeral 10 ds → pos least ≤ℤ pos (digits_value 10 ds) → pos (digits_value 10 ds) ≤ℤ pos most
      → is_some (option_and_then (within least most) (number_of 10 ds)) ≡ true
  plain ds numeral low high =
      ap (λ o. is_some (option_and_then (within least most) o)) (number_from 10 ds numeral.0 numeral.1)
      ∙ ap is_some (some_within least most (digits_value 10 ds) (below least (digits_value 10 ds) low) (below (digits_value 10 ds) most high))

  behind_minus : (v : ℕ) → pos least ≤ℤ neg_ℤ (pos v) → is_some (option_and_then (within least most) (within 0 0 v)) ≡ true
  behind_minus zero low = ap is_some (some_within least most 0 (below least 0 low) (omega arith))
  behind_minus (suc v) low = absurd low.le

-- a word that writes a number within the bounds has one
pub number_within : (least most : ℕ) (word : List ℕ) → IsSignedIn (pos least) (pos most) word
    → is_some (option_and_then (within least most) (number_in word)) ≡ true
number_within least most word h =
    elim (starts_with_minus word) as (λ b.
    let ds = cond b (drop 1 word) (without_leading_plus word) in
    let z = cond b (neg_ℤ (pos (digits_value 10 ds))) (pos (digits_value 10 ds)) in
    IsNumeral 10 ds × FitsSigned w64 z × (pos least ≤ℤ z) × (z ≤ℤ pos most)
    → is_some (option_and_then (within least most)
    (if b then option_and_then (within 0 0) (number_of 10 (drop 1 word)) else number_of 10 (without_leading_plus word))) ≡ true) [
      | true ↦ λ f.
          ap (λ o. is_some (option_and_then (within least most) (option_and_then (within 0 0) o))) (number_from 10 (drop 1 word) f.0.0 f.0.1)
          ∙ behind_minus least most (digits_value 10 (drop 1 word)) f.2
      | false ↦ λ f. plain least most (without_leading_plus word) f.0 f.2 f.3
    ] h
