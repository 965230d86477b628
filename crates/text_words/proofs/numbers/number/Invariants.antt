use Rattle.std.proofs.Common.{◌≡◌, ◌-◌, ◌^◌, ◌<◌, ℕ, true, min, take, get_or, List}
use Rattle.std.specs.Char.{is_digit}
use Rattle.std.specs.Str.Parse.{digits_value}
use Rattle.text_words.proofs.numbers.number.Given as goal

-- the number of the digits seen
pub record HasRead (base : ℕ) (word : List ℕ) (i n : ℕ) : Type 0 where
  pub number : n ≡ min (2 ^ 64 - 1) (digits_value base (take i word))
  pub digits : (k : ℕ) → k < i → is_digit (get_or word k 0) base ≡ true

abbrev pub invariant-loop-byte : goal.invariant-loop-byte
invariant-loop-byte l = HasRead l.base l.word l.byte-index l.number
