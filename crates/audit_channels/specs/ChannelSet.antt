-- A set of channels of the same row of 64, as bits.
use Rattle.std.specs.Prelude.{◌≡◌, ◌/◌, ◌%◌, ℕ}
use Rattle.std.specs.Int.{bit_at}
use Rattle.audit_channels.specs.declared.channel_set.ChannelSet.{ChannelSet}

-- `known` has `channel`: it is in the row of `known`, and the bit at its index in the row is 1
pub record Knows (known : ChannelSet) (channel : ℕ) : Type 0 where
  pub row_is : known.row ≡ channel / 64
  pub bit_is : bit_at known.bits (channel % 64) ≡ 1
