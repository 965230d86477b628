-- Reading a source whole, piece after piece.
use Rattle.std.proofs.Common.{◌≡◌, ◌⊎◌, inl, inr, ℕ, ◌<◌, ◌+◌, ◌^◌, List, ◌++◌, Err, length, take, arith}
use Rattle.std.specs.Io.KnownBytes.{Consumes}
use Rattle.record_file.specs.declared.file_fault.FileFault.{FileFault}
use Rattle.byte_io.specs.declared.reading.PieceFault.{PieceFault}
use Rattle.byte_io.specs.declared.reading.PieceFault.TheVariants as piece
use Rattle.record_file.specs.PieceFault.{file_fault_of}
use Rattle.byte_io.specs.Reading.{EachCallTakes, GivesAt, GivesPiece, ReadingState, Takes}
use Rattle.record_file.specs.Whole.{IsReadFault, IsTooLong}
use Rattle.byte_io.proofs.Readings.{EachCallTakes-trans, HasTaken, IsAnswered-trans, IsFresh, IsWithin, Takes-on, Takes-trans, below, counted, works-on}

pub too-long : (p r : ReadingState) (bytes : List ℕ) → IsFresh p → Takes p r bytes → EachCallTakes p r → (r.bytes ≡ 2 ^ 40) ⊎ (r.calls ≡ 2 ^ 40)
    → IsTooLong bytes p.interruptions r.interruptions
too-long p r bytes fresh taken each (inl full) = let none = fresh.0 in let counted = taken.counted in inl (omega arith)
too-long p r bytes fresh taken each (inr full) =
    let none = fresh.0 in let uncalled = fresh.1 in let counted = taken.counted in let paid = each.paid in inr (omega arith)

-- the bytes that were taken where no piece comes, and why
pub record Stopped (p r : ReadingState) (fault : FileFault) : Type 0 where
  pub bytes : List ℕ
  pub consumed : Consumes p.left r.left bytes
  pub why : IsReadFault fault bytes r.has_failed p.interruptions r.interruptions

pub stopped : (p q r : ReadingState) (bytes room : List ℕ) (e : PieceFault) → IsFresh p → HasTaken p q bytes → GivesAt (Err e) q r room
    → Stopped p r (file_fault_of e)
stopped p q r bytes room piece.Read fresh g h =
    record { bytes = bytes; consumed = (Takes-on p q r bytes g.taken h.taken).consumed; why = h.failed }
stopped p q r bytes room piece.TooLong fresh g h =
    let all = Takes-on p q r bytes g.taken h.taken in record {
      bytes = bytes;
      consumed = all.consumed;
      why = (works-on q r g.works h, too-long p r bytes fresh all (EachCallTakes-trans p q r g.each h.each) h.spent);
    }

-- a reading that is not spent took fewer bytes than it may, and fewer of its calls were interrupted
pub memory-below : (p q r : ReadingState) (bytes : List ℕ) (n : ℕ) (room : List ℕ) → IsFresh p → IsWithin r → HasTaken p q bytes → GivesPiece n q r room
    → 0 < n → ((r.bytes ≡ 2 ^ 40) ⊎ (r.calls ≡ 2 ^ 40) → ⊥)
    → (length (bytes ++ take n room) < 2 ^ 40) × (r.interruptions < 2 ^ 40 + p.interruptions)
memory-below p q r bytes n room fresh inside g h some unspent =
    let all = Takes-trans p q r bytes (take n room) g.taken h.taken in
    let size = counted p r (bytes ++ take n room) fresh all in
    let most = inside.0 in
    let other : r.bytes ≡ 2 ^ 40 → ⊥ = λ full. unspent (inl full) in
    below p r (bytes ++ take n room) fresh inside all (IsAnswered-trans p q r bytes g.taken h.answered) (omega (arith, other))
