-- The words of a plan's text, and what they are read as.
use Rattle.std.proofs.Common.{◌≡◌, ℕ, suc, ◌/◌, ◌%◌, ◌<◌, ◌≤◌, ◌^◌, Bool, true, false, not, List, [], ◌∷◌, ◌++◌, length, None, Some, refl, sym, ap, ◌∙◌, arith, append_assoc, length-append}
use Rattle.std.specs.Prelude.{codes, decimal, slice_index, ◌==◌}
use Rattle.std.specs.List.{list_all}
use Rattle.std.specs.Char.{digit_value}
use Rattle.std.specs.Result.{result_ok}
use Rattle.hex.specs.Hex.{IsBytes, hex_digit_value, encode_lower, encode_with, lower_digits}
use Rattle.hex.proofs.HexLemmas.{IsDigits-lower_digits, length-encode_with, decode_sized-encode_lower}
use Rattle.smp_bytes.specs.Text.{hex_text, guid_text, port_text}
use Rattle.smp_bytes.proofs.HexText.{length-hex_text}
use Rattle.text_words.specs.Quoted.{until}
use Rattle.text_words.proofs.Digits.{is_within}
use Rattle.text_words.proofs.Splits.{differs}
use Rattle.text_words.proofs.NumbersPrinted.{decimal_digits, decimal_is_read, hex_digits, guid_is_read}
use Rattle.text_words.proofs.Printed.{IsWord, is_bare, is_plain, all_append, bare_on, digit_apart, digits_all, digit_bare, digit_plain, until_then}
use Rattle.plan_tables.specs.PlanRanges.{IsBlock}
use Rattle.text_words.specs.NodePorts.{port_of}
use Rattle.text_words.specs.Numbers.{bytes_of, small_of}

-- bytes that are all bare and plain, some of them, are a word
bare_word : (word : List ℕ) → 0 < length word → list_all is_bare word ≡ true → list_all is_plain word ≡ true → IsWord word
bare_word word some bare plain = record { some = some; on = bare_on word bare; plain = plain }

guid_bare : (g : ℕ) → list_all is_bare (guid_text g) ≡ true
guid_bare g = digits_all 16 is_bare (guid_text g) (omega arith) digit_bare (hex_digits 16 g)

guid_plain : (g : ℕ) → list_all is_plain (guid_text g) ≡ true
guid_plain g = digits_all 16 is_plain (guid_text g) (omega arith) digit_plain (hex_digits 16 g)

pub guid_is_word : (g : ℕ) → IsWord (guid_text g)
guid_is_word g = let long : length (hex_text 16 g) ≡ 16 = length-hex_text 16 g in bare_word (guid_text g) (omega (arith, long)) (guid_bare g) (guid_plain g)

-- a port
small_bare : (n : ℕ) → n < 2 ^ 64 → list_all is_bare (decimal n) ≡ true
small_bare n h = digits_all 10 is_bare (decimal n) (omega arith) digit_bare (decimal_digits n h)

small_plain : (n : ℕ) → n < 2 ^ 64 → list_all is_plain (decimal n) ≡ true
small_plain n h = digits_all 10 is_plain (decimal n) (omega arith) digit_plain (decimal_digits n h)

slashed : (g p : ℕ) → port_text g p ≡ guid_text g ++ 47 ∷ decimal p
slashed g p = append_assoc (guid_text g) (codes "/") (decimal p)

pub port_is_word : (g p : ℕ) → p ≤ 254 → IsWord (port_text g p)
port_is_word g p h =
    let long : length (hex_text 16 g) ≡ 16 = length-hex_text 16 g in
    rw (slashed g p)
    (bare_word (guid_text g ++ 47 ∷ decimal p) (omega (arith, long, length-append (guid_text g) (47 ∷ decimal p)))
    (all_append is_bare (guid_text g) (47 ∷ decimal p) (guid_bare g) (small_bare p (omega arith)))
    (all_append is_plain (guid_text g) (47 ∷ decimal p) (guid_plain g) (small_plain p (omega arith))))

pub small_is_read : (most n : ℕ) → n < 2 ^ 64 → n ≤ most → small_of most (decimal n) ≡ Some (Some n)
small_is_read most n h within = rw (decimal_is_read n h, is_within n most within) refl

no_slash : (b : ℕ) → digit_value b < 36 → not (b == 47) ≡ true
no_slash b h = rw (digit_apart b 47 refl h) refl

pub port_is_read : (g p : ℕ) → g < 2 ^ 64 → p ≤ 254 → port_of (port_text g p) ≡ Some (g, Some p)
port_is_read g p h within =
    let split : until 47 (port_text g p) ≡ Some (guid_text g, decimal p) =
    ap (until 47) (slashed g p)
    ∙ until_then 47 (guid_text g) (decimal p) (digits_all 16 (λ b. not (b == 47)) (guid_text g) (omega arith) no_slash (hex_digits 16 g)) in
    rw (split, guid_is_read g h, small_is_read 254 p (omega arith) within) refl

-- entries
hex_apart : (c x d : ℕ) → hex_digit_value c ≡ Some d → hex_digit_value x ≡ None → (c == x) ≡ false
hex_apart c x d e none = differs c x (λ same. let both : Some d ≡ None = sym e ∙ ap hex_digit_value same ∙ none in cc)

record IsHex (c : ℕ) : Type 0 where
  bare : is_bare c ≡ true
  plain : is_plain c ≡ true

hex_digit : (d : ℕ) → d < 16 → IsHex (slice_index lower_digits d)
hex_digit d h =
    let c = slice_index lower_digits d in
    let is = IsDigits-lower_digits d h in
    record {
      bare = rw (hex_apart c 34 d is refl, hex_apart c 35 d is refl, hex_apart c 32 d is refl, hex_apart c 9 d is refl) refl;
      plain = rw (hex_apart c 10 d is refl, hex_apart c 13 d is refl) refl;
    }

later_bytes : (b : ℕ) (bytes : List ℕ) → IsBytes (b ∷ bytes) → IsBytes bytes
later_bytes b bytes h i = h (suc i)

each_digit : (p : ℕ → Bool) (bytes : List ℕ) → ((d : ℕ) → d < 16 → p (slice_index lower_digits d) ≡ true) → IsBytes bytes → list_all p (encode_lower bytes)
    ≡ true
unfolding encode_with
each_digit p [] passes small = refl
each_digit p (b ∷ bytes) passes small =
    let byte : b < 256 = small 0 in
    let high : p (slice_index lower_digits (b / 16)) ≡ true = passes (b / 16) (omega arith) in
    let low : p (slice_index lower_digits (b % 16)) ≡ true = passes (b % 16) (omega arith) in
    rw (high, low) (each_digit p bytes passes (later_bytes b bytes small))

pub entries_are_word : (entries : List ℕ) → IsBlock entries → IsWord (encode_lower entries)
entries_are_word entries is =
    let whole = is.whole in
    bare_word (encode_lower entries) (omega (arith, length-encode_with lower_digits entries))
    (each_digit is_bare entries (λ d h. (hex_digit d h).bare) is.bytes)
    (each_digit is_plain entries (λ d h. (hex_digit d h).plain) is.bytes)

pub entries_are_read : (entries : List ℕ) → IsBlock entries → bytes_of 64 (encode_lower entries) ≡ Some entries
entries_are_read entries is = ap result_ok (decode_sized-encode_lower entries 64 is.whole is.bytes)
