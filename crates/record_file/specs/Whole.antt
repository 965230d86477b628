-- What reading a whole source takes from it, and why that can fail.
use Rattle.std.specs.Prelude.{◌≡◌, ◌⊎◌, ℕ, ◌+◌, ◌<◌, ◌≤◌, ◌^◌, Bool, false, List, IsTrue, length}
use Rattle.std.specs.Io.KnownBytes.{Consumes, IsAtEnd}
use Rattle.byte_io.specs.Source.{SourceState}
use Rattle.record_file.specs.declared.file_fault.FileFault.{FileFault}
use Rattle.record_file.specs.declared.file_fault.FileFault.TheVariants.{Read, Memory, TooLong}

-- the source was read to its end, no call failed, and it gave `bytes`, which are fewer than 2^40 bytes
pub record IsReadWhole {S : Type 0} (state : S → SourceState) (old new : S) (bytes : List ℕ) : Type 0 where
  pub consumed : Consumes (state old).left (state new).left bytes
  pub at_end : IsAtEnd (state new).left
  pub works : (state new).has_failed ≡ false
  pub short : length bytes < 2 ^ 40

-- `taken` has at least 2^40 bytes, or the number of its bytes plus the number of calls interrupted meanwhile is at
-- least 2^40
abbrev pub IsTooLong : List ℕ → ℕ → ℕ → Type 0
IsTooLong taken interruptions interruptions' =
    (2 ^ 40 ≤ length taken) ⊎ (2 ^ 40 + interruptions ≤ length taken + interruptions')

-- why reading stops after the bytes `taken`. It is `Read` if a call failed, and `TooLong` if no call failed and the
-- source is too long (`IsTooLong`). It is `Memory` only if no call failed, fewer than 2^40 bytes were taken and fewer
-- than 2^40 calls were interrupted. It is never another fault
abbrev pub IsReadFault : FileFault → List ℕ → Bool → ℕ → ℕ → Type 0
IsReadFault Read taken has_failed interruptions interruptions' = IsTrue has_failed
IsReadFault TooLong taken has_failed interruptions interruptions' =
    (has_failed ≡ false) × IsTooLong taken interruptions interruptions'
IsReadFault Memory taken has_failed interruptions interruptions' =
    (has_failed ≡ false) × (length taken < 2 ^ 40) × (interruptions' < 2 ^ 40 + interruptions)
IsReadFault fault taken has_failed interruptions interruptions' = ⊥

-- reading the source to its end fails with `fault`
pub record FailsToRead {S : Type 0} (state : S → SourceState)
    (old new : S) (fault : FileFault) : Type 0 where
  pub taken : List ℕ
  pub consumed : Consumes (state old).left (state new).left taken
  pub why : IsReadFault fault taken (state new).has_failed (state old).interruptions (state new).interruptions
