-- Numbers that stop at the greatest of a word.
use Rattle.std.proofs.Common.{◌≡◌, ℕ, ◌+◌, ◌-◌, ◌*◌, ◌^◌, ◌<◌, ◌≤◌, inl, inr, Bool, true, false, ◌&&◌, cond, leb, ltb, List, [], ◌∷◌, length, get_or, take}
use Rattle.std.proofs.Common.{None}
use Rattle.std.proofs.Common.{Some, refl, sym, ap, ◌∙◌, arith, min, drop, lit<}
use borrow.Author.Count.{below_more}
use Rattle.std.specs.Prelude.{option_map, codes}
use Rattle.std.specs.Char.{is_digit, digit_value}
use Rattle.std.specs.List.{list_all}
use Rattle.std.specs.Str.Parse.{digits_value, AllDigits}
use Rattle.std.specs.Str.{bytes_eq}
use Rattle.std.proofs.Math.Bool.{and-false}
use Rattle.std.proofs.lemmas.Bool.{cases_lt, leb-true, leb-false, ltb-true, ltb-false}
use Rattle.std.proofs.lemmas.List.Recursion.{and_from_places, and_fails_at}
use Rattle.std.proofs.lemmas.Nat.{mul-le}
use Rattle.std.proofs.lemmas.List.{take_all}
use Rattle.std.proofs.lemmas.Int.Digits.{digits_value_more, digits_value-lt}
use Rattle.std.proofs.Math.Nat.{pow-le-pow_right}
use Rattle.text_words.specs.Numbers.{digit_of, number_of, up_to, guid_of}
use Rattle.text_words.proofs.Names.{both}

-- a digit more
pub held_step : (most n base digit : ℕ) → 1 ≤ base → min most (min most n * base + digit) ≡ min most (n * base + digit)
held_step most n base digit h =
    elim (cases_lt most n) [
      | inl p ↦ let held : min most n ≡ most = omega arith in
          let more : most * 1 ≤ most * base = mul-le most 1 most base (omega arith) h in
          let more_n : n * 1 ≤ n * base = mul-le n 1 n base (omega arith) h in
          rw held (omega arith)
      | inr p ↦ let held : min most n ≡ n = omega arith in rw held refl
    ]

pub saturated : (most product digit : ℕ) → min (min product most + digit) most ≡ min most (product + digit)
saturated most product digit = omega arith

-- a test that fails
pub not_within : (n most : ℕ) → most < n → leb n most ≡ false
not_within n most h = elim (leb n most) as (λ t. leb n most ≡ t
    → leb n most ≡ false) [ true ↦ λ e. absurd (omega (arith, leb-true n most e)) | false ↦ λ e. e ] refl

pub is_within : (n most : ℕ) → n ≤ most → leb n most ≡ true
is_within n most h = elim (leb n most) as (λ t. leb n most ≡ t
    → leb n most ≡ true) [ true ↦ λ e. e | false ↦ λ e. absurd (omega (arith, leb-false n most e)) ] refl

-- the words whose bytes are digits have a number
pub number_is : (base : ℕ) (word : List ℕ) → 1 ≤ length word → ((k : ℕ) → k < length word → is_digit (get_or word k 0) base ≡ true)
    → number_of base word ≡ Some (digits_value base word)
number_is base word h each =
    let all : list_all (λ b. is_digit b base) word ≡ true = and_from_places (list_all (λ b. is_digit b base)) (λ b. is_digit b base) refl
    (λ _ _. refl) word 0 each in
    let some : leb 1 (length word) ≡ true = is_within 1 (length word) h in
    rw (some, all) refl

-- and others have none
pub no_number : (base : ℕ) (word : List ℕ) (k : ℕ) → k < length word → is_digit (get_or word k 0) base ≡ false → number_of base word ≡ None
no_number base word k h e =
    let fails : list_all (λ b. is_digit b base) word ≡ false =
    and_fails_at (list_all (λ b. is_digit b base)) (λ b. is_digit b base) refl (λ _ _. refl) word k 0 h e in
    rw (fails, and-false) refl

-- the range is below the greatest number
up_to_past : (most n : ℕ) → most < n → up_to most n ≡ None
up_to_past most n h = rw (not_within n most h, and-false) refl

pub up_to_held : (most held n : ℕ) → most < held → up_to most (min held n) ≡ up_to most n
up_to_held most held n h =
    elim (cases_lt n held) [
      | inl p ↦ let same : min held n ≡ n = omega arith in rw same refl
      | inr p ↦ let same : min held n ≡ held = omega arith in rw same (up_to_past most held h ∙ sym (up_to_past most n (omega arith)))
    ]

pub is_below : (m n : ℕ) → m < n → ltb m n ≡ true
is_below m n h = elim (ltb m n) as (λ t. ltb m n ≡ t → ltb m n ≡ true) [ true ↦ λ e. e | false ↦ λ e. absurd (omega (arith, ltb-false m n e)) ] refl

-- a byte that is a digit, and one that is none
tested_digit : (t : Bool) (value d : ℕ) → cond t (Some value) None ≡ Some d → (t ≡ true) × (d ≡ value)
tested_digit true value d e = let same : value ≡ d = cc in (refl, sym same)
tested_digit false value d e = cc

pub digit_there : (base b d : ℕ) → digit_of base b ≡ Some d → (is_digit b base ≡ true) × (d ≡ digit_value b)
digit_there base b d e = tested_digit (is_digit b base) (digit_value b) d e

pub no_digit : (base b : ℕ) → digit_of base b ≡ None → is_digit b base ≡ false
no_digit base b e = elim (is_digit b base) as (λ t. cond t (Some (digit_value b)) None ≡ None → t ≡ false) [ true ↦ λ f. cc | false ↦ λ f. refl ] e

pub digit_is : (base b : ℕ) → digit_value b < base → digit_of base b ≡ Some (digit_value b)
digit_is base b h = rw (is_below (digit_value b) base h) refl

pub digit_is_none : (base b : ℕ) → (digit_value b < base → ⊥) → digit_of base b ≡ None
digit_is_none base b h =
    elim (is_digit b base) as (λ t. is_digit b base ≡ t → cond t (Some (digit_value b)) None ≡ None) [
      | true ↦ λ e. absurd (h (ltb-true _ _ e))
      | false ↦ λ e. refl
    ] refl

-- a digit more is held
pub held_more : (most base : ℕ) (word : List ℕ) (i held digit sum : ℕ) → 1 ≤ base → i < length word
    → held ≡ min most (digits_value base (take i word)) → digit ≡ digit_value (get_or word i 0)
    → sum ≡ min most (held * base + digit) → sum ≡ min most (digits_value base (take (i + 1) word))
held_more most base word i held digit sum some h is_held is_digit is_sum =
    let v = digits_value base (take i word) in
    is_sum ∙ ap (λ n. min most (n * base + digit)) is_held ∙ held_step most v base digit some
    ∙ ap (λ n. min most (v * base + n)) is_digit ∙ sym (ap (λ n. min most n) (digits_value_more base word i h))

pub digits_more : (base : ℕ) (word : List ℕ) (i : ℕ) → ((k : ℕ) → k < i → is_digit (get_or word k 0) base ≡ true) → is_digit (get_or word i 0) base ≡ true
    → (k : ℕ) → k < i + 1 → is_digit (get_or word k 0) base ≡ true
digits_more base word i before here = below_more (λ k. is_digit (get_or word k 0) base ≡ true) i before here

-- the number of all digits
pub held_all : (most base : ℕ) (word : List ℕ) (i held : ℕ) → i ≡ length word → (length word ≡ 0 → ⊥) → held ≡ min most (digits_value base (take i word))
    → ((k : ℕ) → k < i → is_digit (get_or word k 0) base ≡ true) → Some held ≡ option_map (min most) (number_of base word)
held_all most base word i held whole some is_held each =
    let all : number_of base word ≡ Some (digits_value base word) = number_is base word (omega arith) (λ k h. each k (omega arith)) in
    ap Some (is_held ∙ ap (λ w. min most (digits_value base w)) (take_all i word (omega arith))) ∙ sym (ap (option_map (min most)) all)

-- sixteen hex digits fit
pub all_digits : (base : ℕ) (word : List ℕ) → list_all (λ b. is_digit b base) word ≡ true → AllDigits base word
all_digits base [] e = tt
all_digits base (b ∷ word) e = let p = both _ _ e in (ltb-true _ _ p.0, all_digits base word p.1)

held_whole : (digits : List ℕ) → length digits ≤ 16 → option_map (min (2 ^ 64 - 1)) (number_of 16 digits) ≡ number_of 16 digits
held_whole digits h =
    let test = leb 1 (length digits) && list_all (λ b. is_digit b 16) digits in
    let v = digits_value 16 digits in
    elim test as (λ t. test ≡ t → option_map (min (2 ^ 64 - 1)) (cond t (Some v) None) ≡ cond t (Some v) None) [
      | true ↦ λ e. let below : v < 16 ^ length digits = digits_value-lt 16 digits (all_digits 16 digits (both _ _ e).1) in
          let most : 16 ^ length digits ≤ 16 ^ 16 = pow-le-pow_right (lit< tt) h in
          let same : min (2 ^ 64 - 1) v ≡ v = omega arith in ap Some same
      | false ↦ λ e. refl
    ] refl

pub guid_is : (word digits : List ℕ) (n : ℕ) → bytes_eq (take 2 word) (codes "0x") ≡ true → digits ≡ drop 2 word → length digits + 2 ≡ length word
    → length digits ≤ 16
    → Some n ≡ option_map (min (2 ^ 64 - 1)) (number_of 16 digits) → Some n ≡ guid_of word
guid_is word digits n front behind long few e =
    let short : leb (length word) 18 ≡ true = is_within (length word) 18 (omega arith) in
    e ∙ held_whole digits few ∙ ap (number_of 16) behind ∙ sym (rw (front, short) refl)
