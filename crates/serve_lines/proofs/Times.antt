-- A time is the number that its digits write.
use Rattle.std.proofs.Common.{◌≡◌, ◌∙◌, ℕ, ◌<◌, ◌≤◌, ◌-◌, ◌^◌, true, false, leb, List, [], ◌∷◌, length, None, Some, Result, Ok, Err}
use Rattle.std.proofs.Common.{inl, inr, get_or, refl, ap, sym, arith}
use Rattle.std.specs.Char.{is_digit}
use Rattle.std.specs.List.{list_all}
use Rattle.std.specs.Result.{OkIff, result_ok}
use Rattle.std.specs.Str.{IsAscii, IsUtf8}
use Rattle.std.specs.Str.Parse.{AllDigits, ParsesUnsigned, digits_value}
use Rattle.std.proofs.lemmas.Bool.{cases_lt}
use Rattle.std.proofs.lemmas.List.{get_or_past}
use Rattle.std.proofs.lemmas.Str.{IsUtf8-from_ascii}
use Rattle.std.proofs.lemmas.Str.Parse.{IsNumeralModel, digit_at, numerals_by_value, parse_digits, tells_digits}
use Rattle.text_words.specs.Numbers.{number_of, number_up_to}
use Rattle.text_words.proofs.Digits.{all_digits, is_within, not_within}
use Rattle.text_words.proofs.NumbersPrinted.{number_from}

-- decimal digits are ASCII
pub digits_are_text : (word : List ℕ) → list_all (λ b. is_digit b 10) word ≡ true → IsUtf8 word
digits_are_text word e = IsUtf8-from_ascii word each
  where
    each : IsAscii word
    each i = elim (cases_lt i (length word)) [
      | inl h ↦ let within = digit_at word i (all_digits 10 word e) h in omega (arith, within)
      | inr h ↦ let past : get_or word i 0 ≡ 0 = get_or_past word i 0 h in omega (arith, past)
    ]

own : IsNumeralModel (AllDigits 10) (digits_value 10)
own = numerals_by_value (AllDigits 10) tells_digits

within : (word : List ℕ) (n : ℕ) → number_of 10 word ≡ Some n → n < 2 ^ 64 → number_up_to (2 ^ 64 - 1) word ≡ Some n
within word n e h = let yes : leb n (2 ^ 64 - 1) ≡ true = is_within n (2 ^ 64 - 1) (omega (arith, h)) in rw (e, yes) refl

over : (word : List ℕ) (n : ℕ) → number_of 10 word ≡ Some n → 2 ^ 64 ≤ n → number_up_to (2 ^ 64 - 1) word ≡ None
over word n e h = let no : leb n (2 ^ 64 - 1) ≡ false = not_within n (2 ^ 64 - 1) (omega (arith, h)) in rw (e, no) refl

-- what `parse` makes of decimal digits is their number, if it fits in 64 bits
read : {E : Type 0} (word : List ℕ) (r : Result ℕ E) → AllDigits 10 word → OkIff r ((0 < length word) × (digits_value 10 word < 2 ^ 64)) (digits_value 10 word)
    → result_ok r ≡ number_up_to (2 ^ 64 - 1) word
read word (Ok x) all h = ap Some h.1 ∙ sym (within word (digits_value 10 word) (number_from 10 word (omega (arith, h.0.0)) all) h.0.1)
read [] (Err e) all h = refl
read (b ∷ word) (Err e) all h = sym (over (b ∷ word) (digits_value 10 (b ∷ word)) (number_from 10 (b ∷ word) (omega arith) all)
    (elim (cases_lt (digits_value 10 (b ∷ word)) (2 ^ 64)) [
      | inl fits ↦ absurd (h (omega arith, fits))
      | inr not ↦ omega (arith, not)
    ]))

pub time_is : {E : Type 0} (word : List ℕ) (r : Result ℕ E) → list_all (λ b. is_digit b 10) word ≡ true → ParsesUnsigned 64 10 word r
    → result_ok r ≡ number_up_to (2 ^ 64 - 1) word
time_is word r e h = read word r (all_digits 10 word e) (parse_digits own 64 word r h (all_digits 10 word e))
