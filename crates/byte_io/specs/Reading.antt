-- What a reading takes from its source, piece by piece.
use Rattle.std.specs.Prelude.{◌≡◌, ℕ, ◌+◌, ◌<◌, ◌≤◌, ◌^◌, Bool, false, List, [], Option, Result, Ok, Err, IsTrue, length, take}
use Rattle.std.specs.Io.KnownBytes.{Consumes, IsAtEnd}
use Rattle.byte_io.specs.Budget.{IsSpent}
use Rattle.byte_io.specs.declared.reading.PieceFault.{PieceFault}
use Rattle.byte_io.specs.declared.reading.PieceFault.TheVariants.{Read, TooLong}
use Rattle.byte_io.specs.declared.reading.Reading.{Reading}
use Rattle.byte_io.specs.Source.{SourceState}

-- the state of a reading: the bytes that its source has left, if they are known; whether a call of the source has
-- failed; how many calls of the source were interrupted; how many bytes the reading took; and how many calls it made
pub record ReadingState : Type 0 where
  pub left : Option (List ℕ)
  pub has_failed : Bool
  pub interruptions : ℕ
  pub bytes : ℕ
  pub calls : ℕ

-- the state of the reading `r`
abbrev pub state_of : {S : Type 0} → (S → SourceState) → Reading S → ReadingState
state_of state r = record {
  left = (state r.source.now).left;
  has_failed = (state r.source.now).has_failed;
  interruptions = (state r.source.now).interruptions;
  bytes = r.budget.bytes;
  calls = r.budget.calls;
}

-- from `old` to `new`, the reading took the bytes `taken` from its source. It made at least as many calls as were
-- interrupted
pub record Takes (old new : ReadingState) (taken : List ℕ) : Type 0 where
  pub consumed : Consumes old.left new.left taken
  pub counted : new.bytes ≡ old.bytes + length taken
  pub asked : new.interruptions + old.calls ≤ old.interruptions + new.calls

-- from `old` to `new`, the number of calls made is at most the number of bytes taken plus the number of calls
-- interrupted
pub record EachCallTakes (old new : ReadingState) : Type 0 where
  pub paid : (new.calls + old.bytes) + old.interruptions ≤ (old.calls + new.bytes) + new.interruptions

-- from `old` to `new`, at least one call was not interrupted: more calls were made than were interrupted
pub record IsAnswered (old new : ReadingState) : Type 0 where
  pub answered : new.interruptions + old.calls < old.interruptions + new.calls

-- `n` bytes were read into the front of `room`, and no call of the source has failed. `n` is 0 only at the end of the
-- source. `n` is 1 if the reading has taken 2^40 bytes after this call
pub record GivesPiece (n : ℕ) (old new : ReadingState) (room : List ℕ) : Type 0 where
  pub within : n ≤ length room
  pub taken : Takes old new (take n room)
  pub paid : 0 < n → EachCallTakes old new
  pub end : n ≡ 0 → IsAtEnd new.left
  pub below : n ≡ 0 → new.bytes < 2 ^ 40
  pub alone : new.bytes ≡ 2 ^ 40 → n ≡ 1
  pub answered : IsAnswered old new
  pub works : new.has_failed ≡ false

-- a call of the source failed, and no bytes were taken
pub record FailsToGive (old new : ReadingState) : Type 0 where
  pub taken : Takes old new []
  pub below : new.bytes < 2 ^ 40
  pub answered : IsAnswered old new
  pub failed : IsTrue new.has_failed

-- no bytes were taken, each call that was made was interrupted, and the reading is used up. No call failed meanwhile.
-- If the reading was not used up before, no call of the source has ever failed
pub record IsSpentBefore (old new : ReadingState) : Type 0 where
  pub taken : Takes old new []
  pub spent : IsSpent new.bytes new.calls
  pub each : EachCallTakes old new
  pub kept : new.has_failed ≡ old.has_failed
  pub begun : old.bytes < 2 ^ 40 → old.calls < 2 ^ 40 → new.has_failed ≡ false

-- what one call of a reading returns and puts into `room`, from the state `old` to the state `new`. It returns a piece,
-- `Read` if a call of the source failed, or `TooLong` if the reading is used up
abbrev pub GivesAt : Result ℕ PieceFault → ReadingState → ReadingState → List ℕ → Type 0
GivesAt (Ok n) old new room = GivesPiece n old new room
GivesAt (Err Read) old new room = FailsToGive old new
GivesAt (Err TooLong) old new room = IsSpentBefore old new

-- one call of the reading `old` returns `result`, puts what it read into `room`, and leaves the reading `new`
-- (`GivesAt`)
abbrev pub Gives : {S : Type 0} → (S → SourceState) → Result ℕ PieceFault → Reading S
    → Reading S → List ℕ → Type 0
Gives state result old new room =
    GivesAt result (state_of state old) (state_of state new) room
