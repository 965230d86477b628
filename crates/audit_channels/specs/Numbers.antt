-- Numbers of channels while they are being given. A channel gets a number only if each channel that follows it has one.
use Rattle.std.specs.Prelude.{◌≡◌, ◌≢◌, ◌<◌, ℕ, ◌==◌, not, true, Bool, List, [], ◌∷◌, length, slice_index_or, slice_set}
use Rattle.std.specs.List.{list_any}
use Rattle.audit_channels.specs.ChannelOrders.{Follows}

-- whether `channel` has no number yet: its item in `numbers` is 0
abbrev pub has_none : List ℕ → ℕ → Bool
has_none numbers channel = slice_index_or numbers channel 1 == 0

-- whether some channel of `following` has no number yet
abbrev pub is_held_up : List ℕ → List ℕ → Bool
is_held_up numbers following = list_any (has_none numbers) following

-- whether `channel` can get a number: each channel that follows it has one
abbrev pub is_free : List (List ℕ) → List ℕ → ℕ → Bool
is_free waits numbers channel = not (is_held_up numbers (slice_index_or waits channel []))

-- `numbers`, with `number` given to each of `channels`
abbrev pub with_number : List ℕ → ℕ → List ℕ → List ℕ
with_number [] number numbers = numbers
with_number (channel ∷ later) number numbers = with_number later number (slice_set numbers channel number)

-- the number of a channel that has one is less than the numbers of the channels that follow it; a channel without a
-- number is followed by another channel without a number
pub record AreGiven (waits : List (List ℕ)) (numbers : List ℕ) : Type 0 where
  pub as_many : length numbers ≡ length waits
  pub rises : (channel next : ℕ) → slice_index_or numbers channel 0 ≢ 0 → Follows waits channel next
      → slice_index_or numbers channel 0 < slice_index_or numbers next 0
  pub held_up : (channel : ℕ) → channel < length numbers → slice_index_or numbers channel 0 ≡ 0
      → is_held_up numbers (slice_index_or waits channel []) ≡ true
