-- Laws of writes into a field, or into bits of a byte: what was written is read, and everything else is unchanged.
use Rattle.std.specs.Prelude.{◌≡◌, ◌≢◌, ℕ, ◌+◌, ◌^◌, ◌<◌, ◌≤◌, ◌⊎◌, List, All, length, slice_index, true}
use Rattle.smp_bytes.specs.Field.{Field, Bits, number_in, bits_in, with_number, with_bits, are_apart, are_bits_apart}

-- whole bytes --------------------------------------------------------------------------

-- `field` lies within `bytes`
abbrev pub LiesIn : Field → List ℕ → Type 0
LiesIn field bytes = field.at + field.len ≤ length bytes

-- if `field` lies within `bytes` and a number fits in `field`, the number that is written into `field` is read from it
abbrev pub NumberIsRead : Type 0
NumberIsRead = (field : Field) (number : ℕ) (bytes : List ℕ) → LiesIn field bytes → number < 256 ^ field.len
    → number_in field (with_number field number bytes) ≡ number

-- if `field` lies within `bytes`, a write into `field` keeps the number of each field `other` that is apart from it
abbrev pub FieldApartStays : Type 0
FieldApartStays =
    (other field : Field) (number : ℕ) (bytes : List ℕ) → LiesIn field bytes → are_apart other field ≡ true
    → number_in other (with_number field number bytes) ≡ number_in other bytes

-- `new` is as long as `old`, and has the same bytes as `old` outside `field`
pub record KeepsBytesOutside (field : Field) (old new : List ℕ) : Type 0 where
  pub count : length new ≡ length old
  pub outside : (offset : ℕ) → (offset < field.at) ⊎ (field.at + field.len ≤ offset) → slice_index new offset
      ≡ slice_index old offset

-- if `field` lies within `bytes`, a write into `field` keeps the length of `bytes` and each byte outside `field`
abbrev pub BytesOutsideStay : Type 0
BytesOutsideStay = (field : Field) (number : ℕ) (bytes : List ℕ) → LiesIn field bytes
    → KeepsBytesOutside field bytes (with_number field number bytes)

-- suppose that `field` lies within `old`, and that each byte of `new` is below 256. If `new` has `number` in `field`,
-- and keeps the length of `old` and its bytes outside `field`, `new` is `old` with `number` written into `field`
abbrev pub WriteIsUnique : Type 0
WriteIsUnique =
    (field : Field) (number : ℕ) (old new : List ℕ) → LiesIn field old → All (λ byte. byte < 256) new
    → KeepsBytesOutside field old new → number_in field new ≡ number → new ≡ with_number field number old

-- if `field` lies within `bytes`, only the later of two writes into `field` has an effect
abbrev pub LastWriteStands : Type 0
LastWriteStands = (field : Field) (number before : ℕ) (bytes : List ℕ) → LiesIn field bytes
    → with_number field number (with_number field before bytes) ≡ with_number field number bytes

-- some bits of a byte ------------------------------------------------------------------

-- `bits` lie within one byte of `bytes`, and this byte is below 256
pub record AreBitsIn (bits : Bits) (bytes : List ℕ) : Type 0 where
  pub offset : bits.at < length bytes
  pub byte : slice_index bytes bits.at < 256
  pub within : bits.shift + bits.width ≤ 8

-- if `bits` lie in `bytes` (`AreBitsIn`) and a number fits in `bits`, the number that is written into `bits` is read
-- from them
abbrev pub BitsAreRead : Type 0
BitsAreRead = (bits : Bits) (number : ℕ) (bytes : List ℕ) → AreBitsIn bits bytes → number < 2 ^ bits.width
    → bits_in bits (with_bits bits number bytes) ≡ number

-- if `bits` lie in `bytes` (`AreBitsIn`) and a number fits in `bits`, writing the number into `bits` changes no bits
-- apart from them
abbrev pub BitsApartStay : Type 0
BitsApartStay = (other bits : Bits) (number : ℕ) (bytes : List ℕ) → AreBitsIn bits bytes → number < 2 ^ bits.width
    → are_bits_apart other bits ≡ true
    → bits_in other (with_bits bits number bytes) ≡ bits_in other bytes

-- `new` is as long as `old`, and has the same bytes as `old`, except for the byte with `bits`. This byte of `new` is
-- below 256
pub record KeepsOtherBytes (bits : Bits) (old new : List ℕ) : Type 0 where
  pub count : length new ≡ length old
  pub byte : slice_index new bits.at < 256
  pub others : (offset : ℕ) → offset ≢ bits.at → slice_index new offset ≡ slice_index old offset

-- if `bits` lie in `bytes` (`AreBitsIn`) and the number fits in them, a write into `bits` keeps the length of `bytes`
-- and all other bytes (`KeepsOtherBytes`)
abbrev pub OtherBytesStay : Type 0
OtherBytesStay = (bits : Bits) (number : ℕ) (bytes : List ℕ) → AreBitsIn bits bytes → number < 2 ^ bits.width
    → KeepsOtherBytes bits bytes (with_bits bits number bytes)
