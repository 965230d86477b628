-- A reading from its start on, one piece after the other.
use Rattle.std.proofs.Common.{◌≡◌, ◌⊎◌, inl, inr, ℕ, ◌+◌, ◌<◌, ◌≤◌, ◌^◌, false, List, [], ◌++◌, Option, None, Some, length, take, refl, ◌∙◌}
use Rattle.std.proofs.Common.{subst, arith, append-nil, length-append}
use Rattle.std.specs.Io.KnownBytes.{Consumes}
use Rattle.byte_io.specs.Reading.{EachCallTakes, GivesPiece, IsAnswered, IsSpentBefore, ReadingState, Takes, state_of}
use Rattle.byte_io.specs.declared.reading.Reading.{Reading}
use Rattle.byte_io.proofs.Bytes.{Consumes-trans}
use Rattle.byte_io.specs.Source.{SourceState}

-- no call was made yet
pub record IsUntouched (old new : ReadingState) : Type 0 where
  pub bytes : new.bytes ≡ old.bytes
  pub calls : new.calls ≡ old.calls

-- the start of a reading
abbrev pub fresh : {S : Type 0} → (S → SourceState) → S → ReadingState
fresh state source =
    record { left = (state source).left; has_failed = (state source).has_failed; interruptions = (state source).interruptions; bytes = 0; calls = 0 }

pub state_of-fresh : {S : Type 0} (state : S → SourceState) (r : Reading S) (source : S)
    → r.source.now ≡ source → r.budget.bytes ≡ 0 → r.budget.calls ≡ 0
    → state_of state r ≡ fresh state source
state_of-fresh state r source same bytes calls = rw (same, bytes, calls) refl

-- nothing was taken yet, and no call made
abbrev pub IsFresh : ReadingState → Type 0
IsFresh p = (p.bytes ≡ 0) × (p.calls ≡ 0)

-- the reading keeps to its bounds
abbrev pub IsWithin : ReadingState → Type 0
IsWithin p = (p.bytes ≤ 2 ^ 40) × (p.calls ≤ 2 ^ 40)

nothing-consumed : (known : Option (List ℕ)) → Consumes known known []
nothing-consumed None = tt
nothing-consumed (Some bytes) = refl

pub EachCallTakes-trans : (p q r : ReadingState) → EachCallTakes p q → EachCallTakes q r → EachCallTakes p r
EachCallTakes-trans p q r a b = let first = a.paid in let second = b.paid in record { paid = omega arith }

pub Takes-trans : (p q r : ReadingState) (bytes more : List ℕ) → Takes p q bytes → Takes q r more → Takes p r (bytes ++ more)
Takes-trans p q r bytes more a b =
    let first = a.counted in let second = b.counted in let asked = a.asked in let later = b.asked in record {
      consumed = Consumes-trans p.left q.left r.left bytes more a.consumed b.consumed;
      counted = omega (arith, length-append bytes more);
      asked = omega arith;
    }

-- nothing more
pub Takes-on : (p q r : ReadingState) (bytes : List ℕ) → Takes p q bytes → Takes q r [] → Takes p r bytes
Takes-on p q r bytes a b = let P : List ℕ → Type 0 = Takes p r in subst P (append-nil bytes) (Takes-trans p q r bytes [] a b)

pub IsAnswered-trans : (p q r : ReadingState) (bytes : List ℕ) → Takes p q bytes → IsAnswered q r → IsAnswered p r
IsAnswered-trans p q r bytes a b = let asked = a.asked in let answered = b.answered in record { answered = omega arith }

-- these bytes were taken so far, in whole pieces
pub record HasTaken (p q : ReadingState) (bytes : List ℕ) : Type 0 where
  pub taken : Takes p q bytes
  pub each : EachCallTakes p q
  pub works : (q.has_failed ≡ false) ⊎ IsFresh q

pub none-taken : (p : ReadingState) → IsFresh p → HasTaken p p []
none-taken p fresh = record {
  taken = record { consumed = nothing-consumed p.left; counted = omega arith; asked = omega arith };
  each = record { paid = omega arith };
  works = inr fresh;
}

-- a piece more
pub piece-taken : (p q r : ReadingState) (bytes : List ℕ) (n : ℕ) (room : List ℕ) → HasTaken p q bytes → GivesPiece n q r room → 0 < n
    → HasTaken p r (bytes ++ take n room)
piece-taken p q r bytes n room g h some = record {
  taken = Takes-trans p q r bytes (take n room) g.taken h.taken;
  each = EachCallTakes-trans p q r g.each (h.paid some);
  works = inl h.works;
}

-- a reading that is spent did not fail
pub works-on : (p q : ReadingState) → (p.has_failed ≡ false) ⊎ IsFresh p → IsSpentBefore p q → q.has_failed ≡ false
works-on p q (inl works) h = h.kept ∙ works
works-on p q (inr fresh) h = let none = fresh.0 in let uncalled = fresh.1 in h.begun (omega arith) (omega arith)

-- a reading that keeps to its bounds takes at most so many bytes, and as many of its calls are interrupted
pub most : (p q : ReadingState) (taken : List ℕ) → IsFresh p → IsWithin q → Takes p q taken
    → (length taken ≤ 2 ^ 40) × (q.interruptions ≤ 2 ^ 40 + p.interruptions)
most p q taken fresh inside takes =
    let counted = takes.counted in let asked = takes.asked in let none = fresh.0 in let uncalled = fresh.1 in let bytes = inside.0 in let calls = inside.1 in
    (omega arith, omega arith)

-- and fewer where a call was not
pub below : (p q : ReadingState) (taken : List ℕ) → IsFresh p → IsWithin q → Takes p q taken → IsAnswered p q → length taken < 2 ^ 40
    → (length taken < 2 ^ 40) × (q.interruptions < 2 ^ 40 + p.interruptions)
below p q taken fresh inside takes answered short =
    let asked = answered.answered in let uncalled = fresh.1 in let calls = inside.1 in (short, omega arith)

-- so many bytes as the reading counts
pub counted : (p q : ReadingState) (taken : List ℕ) → IsFresh p → Takes p q taken → length taken ≡ q.bytes
counted p q taken fresh takes = let none = fresh.0 in let size = takes.counted in omega arith
