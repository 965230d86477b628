-- GUIDs without the prefix `0x` are read like the numbers of words.
use Rattle.std.proofs.Common.{◌≡◌, ℕ, ◌-◌, ◌<◌, ◌≤◌, ◌^◌, false, leb, List, ◌++◌, length, min, None, Some, refl, arith}
use Rattle.std.specs.Prelude.{codes, option_map}
use Rattle.text_words.specs.Numbers.{bare_guid_of, number_of}
use Rattle.text_words.proofs.Digits.{guid_is, not_within}

-- up to sixteen digits
pub bare_guid_is : (word : List ℕ) (n : ℕ) → length word ≤ 16 → Some n ≡ option_map (min (2 ^ 64 - 1)) (number_of 16 word) → Some n ≡ bare_guid_of word
bare_guid_is word n few e = guid_is (codes "0x" ++ word) word n refl refl (omega arith) few e

-- more are none
pub long_is_none : (word : List ℕ) → 16 < length word → bare_guid_of word ≡ None
long_is_none word many =
    let past : leb (length (codes "0x" ++ word)) 18 ≡ false = not_within (length (codes "0x" ++ word)) 18 (omega arith) in
    rw past refl
