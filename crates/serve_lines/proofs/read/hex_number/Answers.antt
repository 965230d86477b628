use Rattle.std.proofs.Common.{◌≡◌, ◌∙◌, ℕ, ◌<◌, ◌≤◌, ◌-◌, ◌^◌, ◌&&◌, leb, nat_lt, List, length, refl, ap, arith, lit<}
use Rattle.std.proofs.Math.Nat.{pow-le-pow_right}
use Rattle.std.proofs.lemmas.Int.Digits.{digits_value-lt}
use Rattle.std.specs.Char.{is_digit}
use Rattle.std.specs.List.{list_all}
use Rattle.std.specs.Prelude.{IfSome, Option, Some, None, min, option_map, if◌then◌else◌}
use Rattle.std.specs.Str.Parse.{digits_value}
use Rattle.text_words.specs.Numbers.{number_of}
use Rattle.text_words.proofs.Digits.{all_digits}
use Rattle.text_words.proofs.Names.{both}
use Rattle.text_words.proofs.Ranges.{tested}
use Rattle.serve_lines.proofs.read.hex_number.Goals as goal

fits : (o : Option ℕ) → IfSome o (λ g. g < 2 ^ 64) → option_map (min (2 ^ 64 - 1)) o ≡ o
fits None h = refl
fits (Some n) h = ap Some (grind (arith, h))

below : (word : List ℕ) → length word ≤ 16 → IfSome (number_of 16 word) (λ g. g < 2 ^ 64)
below word h =
    tested (λ g. g < 2 ^ 64) (leb 1 (length word) && list_all (λ b. is_digit b 16) word) (Some (digits_value 16 word)) (λ e.
    let below : digits_value 16 word < 16 ^ length word = digits_value-lt 16 word (all_digits 16 word (both _ _ e).1) in
    let most : 16 ^ length word ≤ 16 ^ 16 = pow-le-pow_right (lit< tt) h in
    omega arith)

by_length : (n : ℕ) (o : Option ℕ) → n ≤ 16 → o ≡ (if nat_lt 16 n then None else o)
by_length n o e = grind (arith, e)

pub returns : goal.returns
returns c =
    let word = c.args.word.now in
    let short : length word ≤ 16 = omega (arith, c.if-word-gt16.false) in
    c.number.ensures ∙ fits (number_of 16 word) (below word short) ∙ by_length (length word) (number_of 16 word) short
