-- Fields of a packet or an attribute. A field has a number in whole bytes, or in some bits of one byte.
use Rattle.std.specs.Prelude.{ℕ, ◌+◌, ◌/◌, ◌%◌, ◌*◌, ◌^◌, ◌==◌, Bool, not, ◌||◌, List, [], ◌∷◌, ◌++◌, take, drop, slice_index, length, nat_le}
use Rattle.byteorder.specs.Endian.{big_number, big_bytes}

-- a field of whole bytes: the offset of its first byte, and the number of its bytes
pub record Field : Type 0 where
  pub at : ℕ
  pub len : ℕ

-- bits of one byte: the offset of the byte, the lowest bit, and the number of bits
pub record Bits : Type 0 where
  pub at : ℕ
  pub shift : ℕ
  pub width : ℕ

-- the number that `bytes` have in `field`, most significant byte first
abbrev pub number_in : Field → List ℕ → ℕ
number_in field bytes = big_number field.len (drop field.at bytes)

-- the number that `bytes` have in the bits `bits`
abbrev pub bits_in : Bits → List ℕ → ℕ
bits_in bits bytes = slice_index bytes bits.at / 2 ^ bits.shift % 2 ^ bits.width

-- the bytes that `bytes` have in `field`
abbrev pub bytes_in : Field → List ℕ → List ℕ
bytes_in field bytes = take field.len (drop field.at bytes)

-- `bytes`, with `written` copied into it, starting at offset `at`
unfoldable pub with_bytes : ℕ → List ℕ → List ℕ → List ℕ
with_bytes at written bytes = take at bytes ++ (written ++ drop (at + length written) bytes)

-- `bytes`, with `number` written into `field`
abbrev pub with_number : Field → ℕ → List ℕ → List ℕ
with_number field number bytes = with_bytes field.at (big_bytes field.len number) bytes

-- whether the field `a` ends before the field `b` begins, or `b` ends before `a` begins
abbrev pub are_apart : Field → Field → Bool
are_apart a b = nat_le (a.at + a.len) b.at || nat_le (b.at + b.len) a.at

-- whether `field` ends within the first `count` bytes
abbrev pub ends_within : ℕ → Field → Bool
ends_within count field = nat_le (field.at + field.len) count

-- a field, and the number to be written into it
pub record Entry : Type 0 where
  pub field : Field
  pub number : ℕ

-- `bytes`, with the number of each entry written into its field, from the first entry to the last
abbrev pub with_numbers : List Entry → List ℕ → List ℕ
with_numbers [] bytes = bytes
with_numbers (e ∷ entries) bytes = with_numbers entries (with_number e.field e.number bytes)

-- `byte`, with `number` written into its bits `bits`. If `number` fits in these bits, the bits above and below them are
-- unchanged
abbrev pub replaced : Bits → ℕ → ℕ → ℕ
replaced bits number byte =
    (byte / 2 ^ (bits.shift + bits.width) * 2 ^ bits.width + number) * 2 ^ bits.shift + byte % 2 ^ bits.shift

-- `bytes`, with `number` written into the bits `bits` of one byte
abbrev pub with_bits : Bits → ℕ → List ℕ → List ℕ
with_bits bits number bytes =
    with_number (record { at = bits.at; len = 1 }) (replaced bits number (slice_index bytes bits.at)) bytes

-- whether the bits `a` and `b` are in different bytes, or all bits of one are above all bits of the other
abbrev pub are_bits_apart : Bits → Bits → Bool
are_bits_apart a b = not (a.at == b.at) || (nat_le (a.shift + a.width) b.shift || nat_le (b.shift + b.width) a.shift)
