-- A word is parsed as the number that it writes.
use Rattle.std.proofs.Common.{◌≡◌, ℕ, zero, suc, ◌<◌, ◌≤◌, ◌&&◌, true, false, cond, leb, leb-false, List, length, drop, Option, None, Some, Result, Ok, Err}
use Rattle.std.proofs.Common.{refl, arith, ap, ◌∙◌, subst, sym}
use Rattle.std.proofs.Common.{ℤ, pos, negsuc, FitsSigned, w64}
use Rattle.std.specs.Prelude.{option_and_then, if◌then◌else◌, neg_ℤ, unsigned_abs}
use Rattle.std.specs.Result.{OkIff, result_ok}
use Rattle.std.specs.Char.{is_digit}
use Rattle.std.specs.Int.{FitsUnsignedBits}
use Rattle.std.specs.List.{list_all}
use Rattle.std.specs.Str.Parse.{IsNumeral, ParsesSigned, digits_value, starts_with_minus, without_leading_plus}
use Rattle.std.proofs.lemmas.Bool.{leb-true}
use Rattle.std.proofs.lemmas.Option.{same_Some}
use Rattle.text_words.specs.Numbers.{number_of}
use Rattle.text_words.proofs.Digits.{all_digits, is_within}
use Rattle.text_words.proofs.Names.{both}
use Rattle.text_words.proofs.NumbersPrinted.{number_from}
use Rattle.cli_task.specs.OptionValues.{number_in, within}

-- digits, and nothing else
numeral_is : (ds : List ℕ) → (leb 1 (length ds) && list_all (λ b. is_digit b 10) ds) ≡ true → IsNumeral 10 ds
numeral_is ds e = let p = both _ _ e in (leb-true 1 (length ds) p.0, all_digits 10 ds p.1)

-- a number over the most is not within
over : (least most n : ℕ) → most < n → within least most n ≡ None
over least most n h =
    elim (leb least n && leb n most) as (λ b. (leb least n && leb n most) ≡ b → (if b then Some n else None) ≡ None) [
      | true ↦ λ e. absurd (omega (arith, h, leb-true n most (both _ _ e).1))
      | false ↦ λ e. refl
    ] refl

abbrev pub natural : ℤ → Option ℕ
natural (pos n) = within 0 4294967295 n
natural (negsuc n) = None

pub natural_tried : {F : Type 0} (z : ℤ) (q : Result ℕ F) → OkIff q (FitsUnsignedBits 32 z) (unsigned_abs z) → result_ok q ≡ natural z
natural_tried (pos n) (Ok x) h = rw (is_within 0 n (omega arith), is_within n 4294967295 (let f = h.0 in omega arith)) (ap Some h.1)
natural_tried (pos n) (Err e) h =
    sym (over 0 4294967295 n (elim (leb n 4294967295) as (λ b. leb n 4294967295 ≡ b → 4294967295 < n) [
      | true ↦ λ f. absurd (h (omega (arith, leb-true n 4294967295 f)))
      | false ↦ λ f. omega (arith, leb-false n 4294967295 f)
    ] refl))
natural_tried (negsuc n) (Ok x) h = absurd (h.0)
natural_tried (negsuc n) (Err e) h = refl

fits_pos : (n : ℕ) → n ≤ 4294967295 → FitsSigned w64 (pos n)
fits_pos n h = record { sfits = omega (arith, h) }

module _ (ds : List ℕ) where
  some_digits : (P : Option ℕ → Type 0) → P None → (IsNumeral 10 ds → P (Some (digits_value 10 ds))) → P (number_of 10 ds)
  some_digits P none some =
      elim (leb 1 (length ds) && list_all (λ b. is_digit b 10) ds) as (λ b. (leb 1 (length ds) && list_all (λ b. is_digit b 10) ds) ≡ b
      → P (if b then Some (digits_value 10 ds) else None)) [
        | true ↦ λ e. some (numeral_is ds e)
        | false ↦ λ e. none
      ] refl

  plain_read : {E : Type 0} (r : Result ℤ E) → OkIff r (IsNumeral 10 ds × FitsSigned w64 (pos (digits_value 10 ds))) (pos (digits_value 10 ds))
      → option_and_then (within 0 4294967295) (number_of 10 ds) ≡ option_and_then natural (result_ok r)
  plain_read (Ok x) h = ap (option_and_then (within 0 4294967295)) (number_from 10 ds h.0.0.0 h.0.0.1) ∙ ap natural (sym h.1)
  plain_read (Err e) h =
      some_digits (λ o. option_and_then (within 0 4294967295) o ≡ None) refl
      (λ numeral. over 0 4294967295 (digits_value 10 ds)
      (elim (leb (digits_value 10 ds) 4294967295) as (λ b. leb (digits_value 10 ds) 4294967295 ≡ b → 4294967295 < digits_value 10 ds) [
        | true ↦ λ f. absurd (h (numeral, fits_pos (digits_value 10 ds) (omega (arith, leb-true (digits_value 10 ds) 4294967295 f))))
        | false ↦ λ f. omega (arith, leb-false (digits_value 10 ds) 4294967295 f)
      ] refl))

  negative_is : (v : ℕ) → option_and_then (within 0 4294967295) (within 0 0 v) ≡ natural (neg_ℤ (pos v))
  negative_is zero = refl
  negative_is (suc v) = ap (option_and_then (within 0 4294967295)) (over 0 0 (suc v) (omega arith))

  negative_read : {E : Type 0} (r : Result ℤ E) → OkIff r (IsNumeral 10 ds × FitsSigned w64 (neg_ℤ (pos (digits_value 10 ds))))
      (neg_ℤ (pos (digits_value 10 ds)))
      → option_and_then (within 0 4294967295) (option_and_then (within 0 0) (number_of 10 ds)) ≡ option_and_then natural (result_ok r)
  negative_read (Ok x) h =
      ap (λ o. option_and_then (within 0 4294967295) (option_and_then (within 0 0) o)) (number_from 10 ds h.0.0.0 h.0.0.1)
      ∙ negative_is (digits_value 10 ds) ∙ ap natural (sym h.1)
  negative_read (Err e) h =
      some_digits (λ o. option_and_then (within 0 4294967295) (option_and_then (within 0 0) o) ≡ None) refl
      (λ numeral. none (digits_value 10 ds) (λ fits. h (numeral, fits)))
    where
      none : (v : ℕ) → (FitsSigned w64 (neg_ℤ (pos v)) → ⊥) → option_and_then (within 0 4294967295) (within 0 0 v) ≡ None
      none zero fails = absurd (fails (fits_pos 0 (omega arith)))
      none (suc v) fails = ap (option_and_then (within 0 4294967295)) (over 0 0 (suc v) (omega arith))

-- what is parsed is the number
pub number_parsed : {E : Type 0} (word : List ℕ) (r : Result ℤ E) → ParsesSigned w64 10 word r
    → option_and_then (within 0 4294967295) (number_in word) ≡ option_and_then natural (result_ok r)
number_parsed word r h =
    elim (starts_with_minus word) as (λ b.
    let ds = cond b (drop 1 word) (without_leading_plus word) in
    let z = cond b (neg_ℤ (pos (digits_value 10 ds))) (pos (digits_value 10 ds)) in
    OkIff r (IsNumeral 10 ds × FitsSigned w64 z) z
    → option_and_then (within 0 4294967295) (if b then option_and_then (within 0 0) (number_of 10 (drop 1 word)) else number_of 10 (without_leading_plus word))
    ≡ option_and_then natural (result_ok r)) [
      | true ↦ λ f. negative_read (drop 1 word) r f
      | false ↦ λ f. plain_read (without_leading_plus word) r f
    ] h

-- and it fits
pub parsed_fits : {E : Type 0} (word : List ℕ) (r : Result ℤ E) (x : ℤ) → ParsesSigned w64 10 word r → result_ok r ≡ Some x → FitsSigned w64 x
parsed_fits word (Ok y) x h e =
    let same : y ≡ x = same_Some _ _ e in
    subst (FitsSigned w64) (sym h.1 ∙ same) h.0.1
parsed_fits word (Err f) x h e = absurd (cc)
