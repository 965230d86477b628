-- What `{:016x}` writes is the sixteen hex digits.
use Rattle.std.proofs.Common.{◌≡◌, ℕ, zero, suc, ◌+◌, ◌-◌, ◌/◌, ◌%◌, ◌^◌, ◌<◌, ◌≤◌, List, [], ◌∷◌, ◌++◌, length, replicate, Bool, false, cond, refl, ap, ◌∙◌, ⊎_elim, arith, length-append, append_assoc, eq-eqb, ne_eqb, drop, slice_set, add-one}
use Rattle.std.specs.Fmt.{digits, digits_onto, digit_glyph, padded_integral, char_count, format_spec}
use Rattle.std.proofs.lemmas.Bool.{cases_lt}
use Rattle.std.proofs.lemmas.List.{replicate_more, append-nil, drop-set}
use Rattle.smp_bytes.specs.Text.{hex_text}

-- the digits of nothing are zeros
hex_text-zero : (k : ℕ) → hex_text k 0 ≡ replicate k 48
unfolding hex_text
hex_text-zero zero = refl
hex_text-zero (suc k) = ap (λ t. t ++ 48 ∷ []) (hex_text-zero k) ∙ replicate_more k 48 ∙ ap (λ m. replicate m 48) {x = k + 1} {y = suc k} (omega arith)

-- as many digits are written as were asked for
pub length-hex_text : (k n : ℕ) → length (hex_text k n) ≡ k
unfolding hex_text
length-hex_text zero n = refl
length-hex_text (suc k) n = omega (arith, length-append (hex_text k (n / 16)) (digit_glyph false (n % 16) ∷ []), length-hex_text k (n / 16))

-- the first digit is the last to be written
digits_onto-last : (k n : ℕ) (acc : List ℕ) → n / 16 ≡ 0 → digits_onto (suc k) 16 false n acc ≡ digit_glyph false (n % 16) ∷ acc
digits_onto-last k n acc none =
    ap (λ (b : Bool). cond b (digit_glyph false (n % 16) ∷ acc) (digits_onto k 16 false (n / 16) (digit_glyph false (n % 16) ∷ acc))) (eq-eqb _ 0 none)

-- a digit is written, and then those in front of it
digits_onto-step : (k n : ℕ) (acc : List ℕ) → (n / 16 ≡ 0 → ⊥)
    → digits_onto (suc k) 16 false n acc ≡ digits_onto k 16 false (n / 16) (digit_glyph false (n % 16) ∷ acc)
digits_onto-step k n acc some =
    ap (λ (b : Bool). cond b (digit_glyph false (n % 16) ∷ acc) (digits_onto k 16 false (n / 16) (digit_glyph false (n % 16) ∷ acc))) (ne_eqb _ 0 some)

-- zeros up to a width
zeros_before : ℕ → List ℕ → List ℕ
zeros_before k text = replicate (k - length text) 48 ++ text

-- a number of one digit
one_digit : (k fuel n : ℕ) (acc : List ℕ) → n < 16 → zeros_before (suc k + length acc) (digits_onto (suc fuel) 16 false n acc) ≡ hex_text (suc k) n ++ acc
unfolding zeros_before hex_text
one_digit k fuel n acc small =
    let none : n / 16 ≡ 0 = omega arith in
    let room : suc k + length acc - length (digit_glyph false (n % 16) ∷ acc) ≡ k = omega arith in
    rw (digits_onto-last fuel n acc none, room, none, hex_text-zero k, append_assoc)

-- the digits of a number below a power, filled up with zeros
zeros_before-digits : (k fuel n : ℕ) (acc : List ℕ) → k < fuel → n < 16 ^ suc k
    → zeros_before (suc k + length acc) (digits_onto fuel 16 false n acc) ≡ hex_text (suc k) n ++ acc
unfolding zeros_before hex_text
zeros_before-digits k zero n acc room small = absurd (omega arith)
zeros_before-digits zero (suc fuel) n acc room small = one_digit zero fuel n acc (omega arith)
zeros_before-digits (suc k) (suc fuel) n acc room small = ⊎_elim
    (λ one. one_digit (suc k) fuel n acc one)
    (λ more. let some : n / 16 ≡ 0 → ⊥ = λ e. omega arith in
    let width : suc (suc k) + length acc ≡ suc k + length (digit_glyph false (n % 16) ∷ acc) = omega arith in
    let front = zeros_before-digits k fuel (n / 16) (digit_glyph false (n % 16) ∷ acc) (omega arith) (omega arith) in
    rw (digits_onto-step fuel n acc some, width, append_assoc (hex_text (suc k) (n / 16)) (digit_glyph false (n % 16) ∷ []) acc) front)
    (cases_lt n 16)

-- under `0` a width is filled up with zeros
padded_integral-zeros : (text : List ℕ) → padded_integral (format_spec 32 0 4 16 (2 ^ 64 - 1)) false [] text ≡ zeros_before 16 text
unfolding padded_integral char_count zeros_before
padded_integral-zeros text = let room : 16 - length text - 0 - 0 ≡ 16 - length text = omega arith in rw (room, append-nil text)

-- the digits of a number of at most 64 digits
digits-is : (n : ℕ) → digits 16 false n ≡ digits_onto 64 16 false n []
unfolding digits
digits-is n = refl

-- sixteen digits with zeros in front
pub padded_integral-hex : (n : ℕ) → n < 2 ^ 64 → padded_integral (format_spec 32 0 4 16 (2 ^ 64 - 1)) false [] (digits 16 false n) ≡ hex_text 16 n
padded_integral-hex n small = padded_integral-zeros (digits 16 false n) ∙ ap (zeros_before 16) (digits-is n)
    ∙ zeros_before-digits 15 64 n [] (omega arith) small ∙ append-nil (hex_text 16 n)

-- one more digit, in front of those that stand
pub hex_text-index : (index n : ℕ) (digits : List ℕ) (digit : ℕ) → 0 < index → index ≤ length digits → digit ≡ digit_glyph false (n % 16)
    → hex_text (index - 1) (n / 16) ++ drop (index - 1) (slice_set digits (index - 1) digit) ≡ hex_text index n ++ drop index digits
unfolding hex_text
hex_text-index zero n digits digit pos room e = absurd (omega arith)
hex_text-index (suc k) n digits digit pos room e =
    let back : suc k - 1 ≡ k = omega arith in
    let inside : k < length digits = omega arith in
    rw (back, drop-set digits k digit inside, e, add-one k, append_assoc (hex_text k (n / 16)) (digit_glyph false (n % 16) ∷ []) (drop (suc k) digits))

-- no more digits are wanted
pub hex_text-done : (index n : ℕ) (digits text : List ℕ) → index ≤ 0 → hex_text index n ++ drop index digits ≡ text → digits ≡ text
unfolding hex_text
hex_text-done zero n digits text none e = e
hex_text-done (suc k) n digits text none e = absurd (omega arith)
