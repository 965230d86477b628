-- Numbers are read from their digits.
use Rattle.std.proofs.Common.{◌≡◌, ℕ, zero, suc, ◌+◌, ◌*◌, ◌/◌, ◌%◌, ◌^◌, ◌<◌, ◌≤◌, true, false, leb, List, [], ◌∷◌, ◌++◌, length, refl}
use Rattle.std.proofs.Common.{sym, ap, ◌∙◌, arith, subst}
use Rattle.std.proofs.Common.{Some}
use Rattle.std.specs.Prelude.{codes, decimal}
use Rattle.std.specs.Char.{is_digit, digit_value}
use Rattle.std.specs.Fmt.{digit_glyph}
use Rattle.std.specs.List.{list_all}
use Rattle.std.specs.Str.Parse.{digits_value, AllDigits}
use Rattle.std.proofs.lemmas.Grind.{common_steps}
use Rattle.std.proofs.lemmas.Fmt.{decimal_is_IsNumeral}
use Rattle.std.proofs.lemmas.Int.Digits.{digits_value_push, digits_push}
use Rattle.smp_bytes.specs.Text.{hex_text, guid_text}
use Rattle.smp_bytes.proofs.HexText.{length-hex_text}
use Rattle.text_words.specs.Numbers.{number_of, count_of, guid_of}
use Rattle.text_words.proofs.Digits.{is_within, is_below}

-- what all digits pass
pub digits_pass : (base : ℕ) (word : List ℕ) → AllDigits base word → list_all (λ b. is_digit b base) word ≡ true
digits_pass base [] all = refl
digits_pass base (b ∷ word) all =
    let here : is_digit b base ≡ true = is_below (digit_value b) base all.0 in
    rw (here, digits_pass base word all.1) refl

pub number_from : (base : ℕ) (word : List ℕ) → 1 ≤ length word → AllDigits base word → number_of base word ≡ Some (digits_value base word)
number_from base word some all = rw (is_within 1 (length word) some, digits_pass base word all) refl

-- the digits of a number in decimal
pub decimal_digits : (n : ℕ) → n < 2 ^ 64 → AllDigits 10 (decimal n)
decimal_digits n h = (decimal_is_IsNumeral n h).0.1

pub decimal_some : (n : ℕ) → n < 2 ^ 64 → 0 < length (decimal n)
decimal_some n h = (decimal_is_IsNumeral n h).0.0

pub decimal_is_read : (n : ℕ) → n < 2 ^ 64 → number_of 10 (decimal n) ≡ Some n
decimal_is_read n h = number_from 10 (decimal n) (decimal_some n h) (decimal_digits n h) ∙ ap Some (decimal_is_IsNumeral n h).1

-- a number in its range
pub count_is_read : (most n : ℕ) → most < 2 ^ 64 → 1 ≤ n → n ≤ most → count_of most (decimal n) ≡ Some (Some n)
count_is_read most n fits low high =
    let read : number_of 10 (decimal n) ≡ Some n = decimal_is_read n (omega arith) in
    rw (read, is_within 1 n low, is_within n most high) refl

-- a hex digit
glyph_value : (d : ℕ) → d < 16 → digit_value (digit_glyph false d) ≡ d
glyph_value d h = grind (arith, common_steps)

-- the digits of a number in hex
pub hex_digits : (k n : ℕ) → AllDigits 16 (hex_text k n)
unfolding hex_text
hex_digits zero n = tt
hex_digits (suc k) n =
    let small : n % 16 < 16 = omega arith in
    digits_push 16 (hex_text k (n / 16)) (digit_glyph false (n % 16)) (hex_digits k (n / 16))
    (subst (λ (d : ℕ). d < 16) (sym (glyph_value (n % 16) small)) small)

hex_value : (k n : ℕ) → n < 16 ^ k → digits_value 16 (hex_text k n) ≡ n
unfolding hex_text
hex_value zero n h = omega arith
hex_value (suc k) n h =
    let front : digits_value 16 (hex_text k (n / 16)) ≡ n / 16 = hex_value k (n / 16) (omega arith) in
    let last : digit_value (digit_glyph false (n % 16)) ≡ n % 16 = glyph_value (n % 16) (omega arith) in
    digits_value_push 16 (hex_text k (n / 16)) (digit_glyph false (n % 16)) ∙ ap (λ v. v * 16 + digit_value (digit_glyph false (n % 16))) front
    ∙ ap (λ d. n / 16 * 16 + d) last ∙ omega arith

pub guid_is_read : (n : ℕ) → n < 2 ^ 64 → guid_of (codes "0x" ++ guid_text n) ≡ Some n
guid_is_read n h =
    let long : length (hex_text 16 n) ≡ 16 = length-hex_text 16 n in
    let read : number_of 16 (hex_text 16 n) ≡ Some n = number_from 16 (hex_text 16 n) (omega arith) (hex_digits 16 n)
    ∙ ap Some (hex_value 16 n (omega arith)) in
    let short : leb (length (codes "0x" ++ hex_text 16 n)) 18 ≡ true = is_within (length (codes "0x" ++ hex_text 16 n)) 18 (omega (arith, long)) in
    rw (short, read) refl
