-- Numbers that words spell.
use Rattle.std.specs.Prelude.{ℕ, List, Option, None, Some, length, take, drop, codes, option_map, ◌&&◌, nat_le}
use Rattle.std.specs.Prelude.{◌++◌, if◌then◌else◌, option_and_then}
use Rattle.std.specs.Char.{is_digit, digit_value}
use Rattle.std.specs.List.{list_all}
use Rattle.std.specs.Str.{bytes_eq}
use Rattle.std.specs.Result.{result_ok}
use Rattle.std.specs.Str.Parse.{digits_value}
use Rattle.hex.specs.Hex.{decode_sized}

-- the value of the digit `b` in `base`; None if `b` is not a digit in `base`
abbrev pub digit_of : ℕ → ℕ → Option ℕ
digit_of base b = if is_digit b base then Some (digit_value b) else None

-- the number that `word` spells in `base`; None if `word` is empty or has a byte that is not a digit in `base`
abbrev pub number_of : ℕ → List ℕ → Option ℕ
number_of base word =
    if nat_le 1 (length word) && list_all (λ b. is_digit b base) word then Some (digits_value base word) else None

-- `n` if it is from 1 to `most`, else None
abbrev pub up_to : ℕ → ℕ → Option ℕ
up_to most n = if nat_le 1 n && nat_le n most then Some n else None

-- the number that `word` spells in decimal. None if `word` does not spell a number, and an inner None if the number is
-- not from 1 to `most`
abbrev pub count_of : ℕ → List ℕ → Option (Option ℕ)
count_of most word = option_map (up_to most) (number_of 10 word)

-- the GUID that `word` spells as `0x` followed by one to sixteen hex digits; None if `word` is anything else
abbrev pub guid_of : List ℕ → Option ℕ
guid_of word = if bytes_eq (take 2 word) (codes "0x")
    && nat_le (length word) 18 then number_of 16 (drop 2 word) else None

-- the GUID that `word` spells in one to sixteen hex digits, without `0x` in front; None if `word` is anything else
abbrev pub bare_guid_of : List ℕ → Option ℕ
bare_guid_of word = guid_of (codes "0x" ++ word)

-- `n` if it is at most `most`, else None
abbrev pub at_most : ℕ → ℕ → Option ℕ
at_most most n = if nat_le n most then Some n else None

-- the number that `word` spells in decimal. None if `word` does not spell a number, and an inner None if the number is
-- above `most`
abbrev pub small_of : ℕ → List ℕ → Option (Option ℕ)
small_of most word = option_map (at_most most) (number_of 10 word)

-- the number that `word` spells in decimal; None if `word` does not spell a number, or if the number is above `most`
abbrev pub number_up_to : ℕ → List ℕ → Option ℕ
number_up_to most word = option_and_then (at_most most) (number_of 10 word)

-- the LID that `word` spells in decimal; None if `word` does not spell a number, or if the number is above 65,535
abbrev pub lid_of : List ℕ → Option ℕ
lid_of word = number_up_to 0xFFFF word

-- the `count` bytes that `word` spells, each in two hex digits of either case; None if `word` is anything else
abbrev pub bytes_of : ℕ → List ℕ → Option (List ℕ)
bytes_of count word = result_ok (decode_sized word count)
