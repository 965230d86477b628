-- Numbers of 64 bits, by their last digit.
use Rattle.std.proofs.Common.{◌≡◌, ℕ, ◌+◌, ◌-◌, ◌*◌, ◌^◌, ◌<◌, ◌≤◌, Bool, true, false, ◌&&◌, cond, leb, List, [], ◌∷◌, ◌++◌, length, Option, None, Some}
use Rattle.std.proofs.Common.{refl, sym, ap, ◌∙◌, arith, min, length-append}
use Rattle.std.specs.Prelude.{option_map, SomeIff}
use Rattle.std.specs.Char.{is_digit, digit_value}
use Rattle.std.specs.List.{list_all}
use Rattle.std.specs.Str.Parse.{digits_value}
use Rattle.std.proofs.lemmas.Int.Digits.{digits_value_push}
use Rattle.std.proofs.lemmas.List.Folds.{list_all-append}
use Rattle.text_words.specs.Numbers.{number_of, number_up_to}
use Rattle.text_words.proofs.Digits.{is_within, not_within, is_below}

-- the front's number, where it is held up to the most
record HasHeld (most held : ℕ) (front : List ℕ) : Type 0 where
  digits : list_all (λ b. is_digit b 10) front ≡ true
  value : held ≡ min most (digits_value 10 front)

held_front : (some all : Bool) (most held v : ℕ) → Some held ≡ option_map (min most) (cond (some && all) (Some v) None)
    → (all ≡ true) × (held ≡ min most v)
held_front true true most held v e = let same : held ≡ min most v = cc in (refl, same)
held_front true false most held v e = cc
held_front false all most held v e = cc

held_of : (most held : ℕ) (front : List ℕ) → Some held ≡ option_map (min most) (number_of 10 front) → HasHeld most held front
held_of most held front e =
    let h = held_front (leb 1 (length front)) (list_all (λ b. is_digit b 10) front) most held (digits_value 10 front) e in
    record { digits = h.0; value = h.1 }

-- the number of the whole word
whole : (front : List ℕ) (b : ℕ) → list_all (λ c. is_digit c 10) front ≡ true → digit_value b < 10
    → number_of 10 (front ++ b ∷ []) ≡ Some (digits_value 10 front * 10 + digit_value b)
whole front b front_digits here =
    let digit : is_digit b 10 ≡ true = is_below (digit_value b) 10 here in
    let all : list_all (λ c. is_digit c 10) (front ++ b ∷ []) ≡ true = list_all-append (λ c. is_digit c 10) front (b ∷ []) ∙ rw (front_digits, digit) refl in
    let some : leb 1 (length (front ++ b ∷ [])) ≡ true = is_within 1 (length (front ++ b ∷ [])) (omega (arith, length-append front (b ∷ []))) in
    let value : digits_value 10 (front ++ b ∷ []) ≡ digits_value 10 front * 10 + digit_value b = digits_value_push 10 front b in
    rw (some, all, value) refl

-- over the most, and not
over : (most : ℕ) (word : List ℕ) (n : ℕ) → number_of 10 word ≡ Some n → most < n → number_up_to most word ≡ None
over most word n e h = let no : leb n most ≡ false = not_within n most h in rw (e, no) refl

within : (most : ℕ) (word : List ℕ) (n : ℕ) → number_of 10 word ≡ Some n → n ≤ most → number_up_to most word ≡ Some n
within most word n e h = let yes : leb n most ≡ true = is_within n most h in rw (e, yes) refl

-- the front alone is too great
pub front_over : (word front : List ℕ) (b held : ℕ) → word ≡ front ++ b ∷ [] → Some held ≡ option_map (min (2 ^ 64 - 1)) (number_of 10 front)
    → digit_value b < 10 → (held * 10 < 2 ^ 64 → ⊥) → number_up_to (2 ^ 64 - 1) word ≡ None
front_over word front b held is e here past =
    let h = held_of (2 ^ 64 - 1) held front e in
    let n = digits_value 10 front * 10 + digit_value b in
    let number : number_of 10 word ≡ Some n = ap (number_of 10) is ∙ whole front b h.digits here in
    let same : held ≡ min (2 ^ 64 - 1) (digits_value 10 front) = h.value in
    over (2 ^ 64 - 1) word n number (omega (arith, same, past))

-- the last digit more
added : (word : List ℕ) (v d held tens : ℕ) (result : Option ℕ) → number_of 10 word ≡ Some (v * 10 + d) → held ≡ min (2 ^ 64 - 1) v
    → tens ≡ held * 10 → held * 10 < 2 ^ 64 → SomeIff result (tens + d < 2 ^ 64) (tens + d) → result ≡ number_up_to (2 ^ 64 - 1) word
added word v d held tens None number same product fits adds =
    sym (over (2 ^ 64 - 1) word (v * 10 + d) number (omega (arith, same, product, fits, adds)))
added word v d held tens (Some n) number same product fits adds =
    let sum : n ≡ tens + d = adds.1 in
    let below : tens + d < 2 ^ 64 = adds.0 in
    let small : held ≡ v = omega (arith, same, product, fits) in
    let value : n ≡ v * 10 + d = omega (arith, sum, product, small) in
    ap Some value ∙ sym (within (2 ^ 64 - 1) word (v * 10 + d) number (omega (arith, sum, value, below)))

pub last_added : (word front : List ℕ) (b d held tens : ℕ) (result : Option ℕ) → word ≡ front ++ b ∷ []
    → Some held ≡ option_map (min (2 ^ 64 - 1)) (number_of 10 front) → digit_value b < 10 → d ≡ digit_value b
    → tens ≡ held * 10 → held * 10 < 2 ^ 64 → SomeIff result (tens + d < 2 ^ 64) (tens + d) → result ≡ number_up_to (2 ^ 64 - 1) word
last_added word front b d held tens result is e here digit product fits adds =
    let h = held_of (2 ^ 64 - 1) held front e in
    let number : number_of 10 word ≡ Some (digits_value 10 front * 10 + d) = ap (number_of 10) is ∙ whole front b h.digits here
    ∙ ap (λ k. Some (digits_value 10 front * 10 + k)) (sym digit) in
    added word (digits_value 10 front) d held tens result number h.value product fits adds
