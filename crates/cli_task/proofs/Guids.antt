-- A word of at most sixteen hex digits is read as a number.
use Rattle.std.proofs.Common.{◌≡◌, ◌&&◌, ◌||◌, ℕ, ◌≤◌, Bool, true, false, List, [], ◌∷◌, length, nat_lt, refl, ap, arith}
use Rattle.std.proofs.lemmas.Bool.{and_parts, leb-true}
use Rattle.std.specs.Prelude.{is_some, nat_le, None, Some, Option, if◌then◌else◌}
use Rattle.std.specs.Char.{is_ascii_hexdigit, is_digit}
use Rattle.std.specs.Int.{is_in_range}
use Rattle.std.specs.List.{list_all}
use Rattle.std.specs.Str.Parse.{digits_value}
use Rattle.text_words.specs.Numbers.{number_of}
use Rattle.serve_lines.specs.ServeLine.{hex_number}
use Rattle.cli_arguments.specs.Words.{is_guid_word}

or_cases : (x y z : Bool) (P : Type 0) → ((x || y) || z) ≡ true → (x ≡ true → P) → (y ≡ true → P) → (z ≡ true → P) → P
or_cases true y z P e f g h = f refl
or_cases false true z P e f g h = g refl
or_cases false false true P e f g h = h refl
or_cases false false false P e f g h = absurd (cc)

within : (low high b : ℕ) → is_in_range low high b ≡ true → (low ≤ b) × (b ≤ high)
within low high b e =
    let parts = and_parts (nat_le low b) (nat_le b high) e in (leb-true low b parts.0, leb-true b high parts.1)

decimal_is : (b : ℕ) → 48 ≤ b → b ≤ 57 → is_digit b 16 ≡ true
decimal_is b low high = grind (arith, low, high)

upper_is : (b : ℕ) → 65 ≤ b → b ≤ 70 → is_digit b 16 ≡ true
upper_is b low high = grind (arith, low, high)

lower_is : (b : ℕ) → 97 ≤ b → b ≤ 102 → is_digit b 16 ≡ true
lower_is b low high = grind (arith, low, high)

digit_is : (b : ℕ) → is_ascii_hexdigit b ≡ true → is_digit b 16 ≡ true
digit_is b e =
    or_cases (is_in_range 48 57 b) (is_in_range 65 70 b) (is_in_range 97 102 b) (is_digit b 16 ≡ true) e
    (λ t. let r = within 48 57 b t in decimal_is b r.0 r.1) (λ t. let r = within 65 70 b t in upper_is b r.0 r.1)
    (λ t. let r = within 97 102 b t in lower_is b r.0 r.1)

digits_are : (word : List ℕ) → list_all is_ascii_hexdigit word ≡ true → list_all (λ b. is_digit b 16) word ≡ true
digits_are [] e = refl
digits_are (b ∷ word) e =
    let parts = and_parts (is_ascii_hexdigit b) (list_all is_ascii_hexdigit word) e in
    rw (digit_is b parts.0, digits_are word parts.1) refl

by_length : (n : ℕ) (o : Option ℕ) → n ≤ 16 → is_some o ≡ true → is_some (if nat_lt 16 n then None else o) ≡ true
by_length n o e h = grind (arith, e, h)

pub guid_is_read : (word : List ℕ) → is_guid_word word ≡ true → is_some (hex_number word) ≡ true
guid_is_read word e =
    let digits = and_parts (nat_le 1 (length word) && nat_le (length word) 16) (list_all is_ascii_hexdigit word) e in
    let bounds = and_parts (nat_le 1 (length word)) (nat_le (length word) 16) digits.0 in
    let there : number_of 16 word ≡ Some (digits_value 16 word) = rw (bounds.0, digits_are word digits.1) refl in
    by_length (length word) (number_of 16 word) (leb-true (length word) 16 bounds.1) (ap is_some there)
