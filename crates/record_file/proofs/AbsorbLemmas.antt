-- Lemmas on how absorbing a source ends.
use Rattle.std.proofs.Common.{◌≡◌, ◌⊎◌, inl, inr, ℕ, ◌+◌, ◌<◌, ◌≤◌, ◌^◌, List, [], ◌∷◌, ◌++◌, Some, Option, Result, Ok, Err, length, take}
use Rattle.std.proofs.Common.{refl, sym, ap, ◌∙◌, subst, arith, append_assoc, length-append}
use Rattle.std.specs.Prelude.{nat_eq}
use Rattle.std.specs.List.{concat, starts_with}
use Rattle.std.specs.Io.KnownBytes.{IsAtEnd}
use Rattle.std.proofs.lemmas.List.{length-take-le}
use Rattle.fact_store.specs.View.{Facts}
use Rattle.fact_store.specs.Merge.{merge}
use Rattle.record_file.specs.declared.awaited.Awaited.{Awaited}
use Rattle.record_file.specs.declared.awaited.Awaited.TheVariants as awaited
use Rattle.record_file.specs.declared.file_fault.FileFault.{FileFault}
use Rattle.record_file.specs.declared.file_fault.FileFault.TheVariants.{Magic, Truncated, BadReport, BadCell, CellOrder, Memory, Read, TooLong, BadFloor}
use Rattle.record_file.specs.declared.format.Format.{Format}
use Rattle.byte_io.specs.declared.reading.PieceFault.{PieceFault}
use Rattle.byte_io.specs.declared.reading.PieceFault.TheVariants as piece
use Rattle.record_file.specs.Absorbs.{AbsorbsFrom, AnswersOutcome, HasNoFaultYet, HoldsKept, IsBounded, IsDecided, WasInterruptedTooOften}
use Rattle.record_file.specs.Feeding.{Absorbing, Awaits, FeedsPiece, Finishes, StopsWith, WasFed}
use Rattle.record_file.specs.Laws.{IsBadPart}
use Rattle.record_file.specs.PieceFault.{file_fault_of}
use Rattle.byte_io.specs.Reading.{GivesAt, GivesPiece, ReadingState}
use Rattle.record_file.specs.Reading.{facts_in, outcome, record_size}
use Rattle.record_file.specs.Head.{floored_magic, head_bytes}
use Rattle.record_file.proofs.Pieces.{fault_in-behind, held-then, held-wanted, length-awaits, nothing-said, outcome-cut, outcome-header, outcome-magic}
use Rattle.record_file.proofs.Pieces.{outcome-whole, so_far-late, stays}
use Rattle.record_file.proofs.PieceSteps.{takes-part}
use Rattle.byte_io.proofs.Readings.{HasTaken, IsAnswered-trans, IsFresh, IsWithin, Takes-on, Takes-trans, EachCallTakes-trans, below, counted, most}
use Rattle.byte_io.proofs.Readings.{piece-taken}
use Rattle.record_file.proofs.Records.{length-wanted, not_at_end}

abbrev pub AbsorbsAt : Result (Unit {0}) FileFault → Facts → Facts → ReadingState → ReadingState → Type 0
AbsorbsAt answer old new p q = AbsorbsFrom p.left q.left p.interruptions q.interruptions answer old new

-- these bytes were taken and fed, without a fault, and the store holds what they keep
pub record Progress (p q : ReadingState) (a : Absorbing) (old new : Facts) (taken : List ℕ) : Type 0 where
  pub read : HasTaken p q taken
  pub fed : WasFed a taken
  pub held : new ≡ merge old (facts_in taken)

pub nothing-read : (p : ReadingState) (a : Absorbing) (s : Facts) → IsFresh p → WasFed a [] → HasTaken p p [] → Progress p p a s s []
nothing-read p a s fresh fed read = record {
  read = read;
  fed = fed;
  held = sym (nothing-said s);
}

awaits-no_fault : (w : Awaited) (part fed : List ℕ) → Awaits w part fed → length fed < 2 ^ 40 → HasNoFaultYet fed
awaits-no_fault awaited.Magic part fed h short = inl (inl (omega (arith, ap length h.0, h.1)))
awaits-no_fault awaited.Header part fed h short =
    inl (inr (ap (λ l. starts_with nat_eq l floored_magic) h.0, omega (arith, ap length h.0, h.1, length-append floored_magic part)))
awaits-no_fault (awaited.Record format index last) part fed b short =
    let is = fault_in-behind format index last part fed b (omega arith) in inr (format, is.0, is.1)

-- the end, or no byte more ---------------------------------------------------------------

-- bytes without a fault end well, before the magic is whole, or within a record
ends_as : (w : Awaited) (part fed : List ℕ) → Awaits w part fed → length fed < 2 ^ 40
    → (outcome fed ≡ Ok tt) ⊎ ((outcome fed ≡ Err Magic) ⊎ ((offset : ℕ) × (outcome fed ≡ Err (Truncated offset))))
ends_as awaited.Magic part fed h short = inr (inl (outcome-magic part fed h))
ends_as awaited.Header part fed h short = inr (inr (8, outcome-header part fed h))
ends_as (awaited.Record format index last) [] fed b short = inl (outcome-whole format index last [] fed b short refl)
ends_as (awaited.Record format index last) (x ∷ xs) fed b short = inr (inr (_, outcome-cut format index last (x ∷ xs) fed b short (omega arith)))

-- the source is at its end
pub absorbs-end : (p q r : ReadingState) (a : Absorbing) (old new : Facts) (taken : List ℕ) (n : ℕ) (room : List ℕ) (answer : Result (Unit {0}) FileFault)
    → Progress p q a old new taken → IsFresh p → IsWithin r → GivesPiece n q r room → n ≡ 0 → Finishes a answer
    → AbsorbsAt answer old new p r × (answer ≡ Err Read → ⊥)
absorbs-end p q r a old new taken n room answer g fresh inside h none ended =
    let is : answer ≡ outcome taken = ended.ends taken g.fed in
    let cut : take n room ≡ [] = ap (λ k. take k room) none in
    let takes = Takes-on p q r taken g.read.taken (rw cut at h.taken) in
    let bounded = below p r taken fresh inside takes (IsAnswered-trans p q r taken g.read.taken h.answered) g.fed.short in
    let at_end = h.end none in
    let P : Result (Unit {0}) FileFault → Type 0 = λ o. AbsorbsAt o old new p r × (o ≡ Err Read → ⊥) in
    elim (ends_as g.fed.awaited a.part taken g.fed.awaits g.fed.short) [
      | inl well ↦ subst P (sym (is ∙ well)) (
        record { taken = taken; consumed = takes.consumed; held = g.held; answered = well; decided = at_end; bounded = bounded },
        λ e. let f : ◌≡◌ {A = Result (Unit {0}) FileFault} (Ok tt) (Err Read) = e in absurd (cc),
      )
      | inr (inl early) ↦ subst P (sym (is ∙ early)) (
        record { taken = taken; consumed = takes.consumed; held = g.held; answered = early; decided = λ _. at_end; bounded = bounded },
        λ e. let f : ◌≡◌ {A = Result (Unit {0}) FileFault} (Err Magic) (Err Read) = e in absurd (cc),
      )
      | inr (inr within) ↦ subst P (sym (is ∙ within.1)) (
        record { taken = taken; consumed = takes.consumed; held = g.held; answered = within.1; decided = at_end; bounded = bounded },
        λ e. let f : ◌≡◌ {A = Result (Unit {0}) FileFault} (Err (Truncated within.0)) (Err Read) = e in absurd (cc),
      )
    ]

-- the source failed, or the reading was spent by its calls
pub absorbs-stopped : (p q r : ReadingState) (a : Absorbing) (old new : Facts) (taken room : List ℕ) (e : PieceFault) → Progress p q a old new taken → IsFresh p
    → IsWithin r → GivesAt (Err e) q r room → AbsorbsAt (Err (file_fault_of e)) old new p r
absorbs-stopped p q r a old new taken room piece.Read g fresh inside h =
    let takes = Takes-on p q r taken g.read.taken h.taken in record {
      taken = taken;
      consumed = takes.consumed;
      held = g.held;
      answered = tt;
      decided = awaits-no_fault g.fed.awaited a.part taken g.fed.awaits g.fed.short;
      bounded = below p r taken fresh inside takes (IsAnswered-trans p q r taken g.read.taken h.answered) g.fed.short;
    }
absorbs-stopped p q r a old new taken room piece.TooLong g fresh inside h =
    let takes = Takes-on p q r taken g.read.taken h.taken in
    let paid = (EachCallTakes-trans p q r g.read.each h.each).paid in
    let none = fresh.0 in
    let uncalled = fresh.1 in
    let size = counted p r taken fresh takes in
    let short = g.fed.short in record {
      taken = taken;
      consumed = takes.consumed;
      held = g.held;
      answered = elim h.spent [
        | inl long ↦ absurd (omega arith)
        | inr calls ↦ inr (omega arith)
      ];
      decided = awaits-no_fault g.fed.awaited a.part taken g.fed.awaits g.fed.short;
      bounded = most p r taken fresh inside takes;
    }

-- a piece that is refused -------------------------------------------------------------------

-- the 2^40th byte ends no record
last_byte : (w : Awaited) (part fed bytes : List ℕ) (f : FileFault) (s t : Facts) → Awaits w part fed → length bytes ≡ 1 → length (fed ++ bytes) ≡ 2 ^ 40
    → StopsWith f fed bytes s t → f ≡ TooLong
last_byte awaited.Magic part fed bytes f s t h one all stops = absurd (omega (arith, length-append fed bytes, ap length h.0, h.1))
last_byte awaited.Header part fed bytes f s t h one all stops =
    absurd (omega (arith, length-append fed bytes, ap length h.0, h.1, length-append floored_magic part))
last_byte (awaited.Record format index last) part fed bytes f s t b one all (inl wants) =
    let m = wants.1 in
    let file_size = length-wanted m.format m.records m.r m.good in
    let done = m.completed in
    let reach = m.in_reach in
    absurd (not_at_end m.format (length (m.records ++ m.r ∷ [])) (omega (arith, length-append fed bytes)))
last_byte (awaited.Record format index last) part fed bytes f s t b one all (inr h) =
    let size = length-awaits (awaited.Record format index last) part fed b in
    let short = b.short in
    let other : length (part ++ bytes) ≡ record_size format → ⊥ =
    λ whole. not_at_end format (index + 1) (omega (arith, length-append fed bytes, length-append part bytes, whole)) in
    let next = takes-part (awaited.Record format index last) part bytes fed s b (omega (arith, length-append part bytes, other)) (omega arith) in
    let e : ◌≡◌ {A = Option FileFault} (Some f) (Some TooLong) =
    sym h.0 ∙ so_far-late (awaited.Record format index last) (part ++ bytes) (fed ++ bytes) next.0 all in cc

-- nor is a fault that comes before it one of too many bytes
short_piece : (a : Absorbing) (taken bytes : List ℕ) (f : FileFault) (s t : Facts) → WasFed a taken → StopsWith f taken bytes s t
    → length (taken ++ bytes) ≤ 2 ^ 40 → (length (taken ++ bytes) ≡ 2 ^ 40 → length bytes ≡ 1) → (f ≡ TooLong → ⊥) → length (taken ++ bytes) < 2 ^ 40
short_piece a taken bytes f s t fed stops inside alone other =
    let not_full : length (taken ++ bytes) ≡ 2 ^ 40 → ⊥ =
    λ full. other (last_byte fed.awaited a.part taken bytes f s t fed.awaits (alone full) full stops) in omega (arith, not_full)

answers-bad : (f : FileFault) (bytes : List ℕ) (spent : Type 0) → IsBadPart f → outcome bytes ≡ Err f → AnswersOutcome (Err f) bytes spent
answers-bad BadFloor bytes spent bad h = h
answers-bad (BadReport i g) bytes spent bad h = h
answers-bad (BadCell i) bytes spent bad h = h
answers-bad (CellOrder i) bytes spent bad h = h
answers-bad Magic bytes spent bad h = absurd bad
answers-bad (Truncated offset) bytes spent bad h = absurd bad
answers-bad Read bytes spent bad h = absurd bad
answers-bad Memory bytes spent bad h = absurd bad
answers-bad TooLong bytes spent bad h = absurd bad

-- and it does not depend on what follows
decided-bad : (f : FileFault) (bytes : List ℕ) (end : Type 0) → IsBadPart f → IsDecided (Err f) bytes end
decided-bad BadFloor bytes end bad = tt
decided-bad (BadReport i g) bytes end bad = tt
decided-bad (BadCell i) bytes end bad = tt
decided-bad (CellOrder i) bytes end bad = tt
decided-bad Magic bytes end bad = absurd bad
decided-bad (Truncated offset) bytes end bad = absurd bad
decided-bad Read bytes end bad = absurd bad
decided-bad Memory bytes end bad = absurd bad
decided-bad TooLong bytes end bad = absurd bad

-- nor does it keep what it would when out of memory
held-bad : (f : FileFault) (old new : Facts) (bytes : List ℕ) → IsBadPart f → new ≡ merge old (facts_in bytes) → HoldsKept (Err f) old new bytes
held-bad BadFloor old new bytes bad h = h
held-bad (BadReport i g) old new bytes bad h = h
held-bad (BadCell i) old new bytes bad h = h
held-bad (CellOrder i) old new bytes bad h = h
held-bad Magic old new bytes bad h = absurd bad
held-bad (Truncated offset) old new bytes bad h = absurd bad
held-bad Read old new bytes bad h = absurd bad
held-bad Memory old new bytes bad h = absurd bad
held-bad TooLong old new bytes bad h = absurd bad

-- and fewer bytes and interruptions came than may
bounded-bad : (f : FileFault) (n i j : ℕ) → IsBadPart f → n < 2 ^ 40 → j < 2 ^ 40 + i → IsBounded (Err f) n i j
bounded-bad BadFloor n k j bad h w = (h, w)
bounded-bad (BadReport i g) n k j bad h w = (h, w)
bounded-bad (BadCell i) n k j bad h w = (h, w)
bounded-bad (CellOrder i) n k j bad h w = (h, w)
bounded-bad Magic n k j bad h w = absurd bad
bounded-bad (Truncated offset) n k j bad h w = absurd bad
bounded-bad Read n k j bad h w = absurd bad
bounded-bad Memory n k j bad h w = absurd bad
bounded-bad TooLong n k j bad h w = absurd bad

-- it is neither of these
other-bad : (f g : FileFault) → IsBadPart f → (IsBadPart g → ⊥) → f ≡ g → ⊥
other-bad f g bad not same = let P : FileFault → Type 0 = IsBadPart in not (subst P same bad)

behind-length : (format : Format) (records : List (List ℕ)) (r behind : List ℕ)
    → length (head_bytes format ++ (concat records ++ (r ++ behind))) ≡ length (head_bytes format ++ (concat records ++ r)) + length behind
behind-length format records r behind =
    ap length (sym (append_assoc (head_bytes format) (concat records ++ r) behind ∙ ap (λ l. head_bytes format ++ l) (append_assoc (concat records) r behind)))
    ∙ length-append (head_bytes format ++ (concat records ++ r)) behind

-- the next piece is refused
pub absorbs-refused : (p q r : ReadingState) (a : Absorbing) (old mid new : Facts) (taken : List ℕ) (n : ℕ) (room : List ℕ) (b : Absorbing) (f : FileFault)
    → Progress p q a old mid taken → IsFresh p → IsWithin r → GivesPiece n q r room → 0 < n → n ≤ 4096
    → FeedsPiece a (take n room) (Err f) b mid new → AbsorbsAt (Err f) old new p r × (f ≡ Read → ⊥)
absorbs-refused p q r a old mid new taken n room b f g fresh inside h some least feeds =
    let bytes = take n room in
    let long : length bytes ≡ n = length-take-le n room h.within in
    let all = Takes-trans p q r taken bytes g.read.taken h.taken in
    let size = counted p r (taken ++ bytes) fresh all in
    let fits = inside.0 in
    let alone : length (taken ++ bytes) ≡ 2 ^ 40 → length bytes ≡ 1 = λ full. long ∙ h.alone (sym size ∙ full) in
    let stops = (feeds.goes_on taken g.fed).1 in
    let bounded : (f ≡ TooLong → ⊥) → (length (taken ++ bytes) < 2 ^ 40) × (r.interruptions < 2 ^ 40 + p.interruptions) =
    λ other. below p r (taken ++ bytes) fresh inside all (IsAnswered-trans p q r taken g.read.taken h.answered)
    (short_piece a taken bytes f mid new g.fed stops (omega arith) alone other) in
    let P : FileFault → Type 0 = λ e. AbsorbsAt (Err e) old new p r × (e ≡ Read → ⊥) in
    elim stops [
      | inl wants ↦
          let w = wants.1 in
          let is : AbsorbsAt (Err Memory) old new p r = record {
            taken = taken ++ bytes;
            consumed = all.consumed;
            held = (
              record {
                format = w.format;
                records = w.records;
                last = w.r;
                behind = w.behind;
                sound = w.sound;
                whole = w.whole;
                good = w.good;
                near = let done =
                    w.completed in omega (arith, ap length w.whole, behind-length w.format w.records w.r w.behind, length-append taken bytes, long);
              },
              held-wanted old mid new taken bytes g.held w,
            );
            answered = tt;
            decided = tt;
            bounded = bounded (λ e. let other : Memory ≡ TooLong = sym wants.0 ∙ e in absurd (cc));
          } in
          subst P (sym wants.0) (is, λ e. absurd (cc))
      | inr told ↦
          let is = stays (taken ++ bytes) [] f told.0 in
          let held = held-then old mid new taken bytes g.held told.1 in
          elim is.kind [
            | inl other ↦
                let no : AbsorbsAt (Err Magic) old new p r = record {
                  taken = taken ++ bytes;
                  consumed = all.consumed;
                  held = held;
                  answered = is.now ∙ ap (λ e. Err e) other.0;
                  decided = λ short. let eight = other.1 in absurd (omega arith);
                  bounded = bounded (λ e. let not : Magic ≡ TooLong = sym other.0 ∙ e in absurd (cc));
                } in
                subst P (sym other.0) (no, λ e. absurd (cc))
            | inr (inl bad) ↦
                let fewer = bounded (other-bad f TooLong bad (λ no. no)) in (
                  record {
                    taken = taken ++ bytes;
                    consumed = all.consumed;
                    held = held-bad f old new (taken ++ bytes) bad held;
                    answered = answers-bad f (taken ++ bytes) (WasInterruptedTooOften (taken ++ bytes) [] p.interruptions r.interruptions) bad is.now;
                    decided = decided-bad f (taken ++ bytes) (IsAtEnd r.left) bad;
                    bounded = bounded-bad f (length (taken ++ bytes)) p.interruptions r.interruptions bad fewer.0 fewer.1;
                  },
                  other-bad f Read bad (λ no. no),
                )
            | inr (inr late) ↦
                let no : AbsorbsAt (Err TooLong) old new p r = record {
                  taken = taken ++ bytes;
                  consumed = all.consumed;
                  held = held;
                  answered = inl (is.now ∙ ap (λ e. Err e) late.0);
                  decided = late.1;
                  bounded = most p r (taken ++ bytes) fresh inside all;
                } in
                subst P (sym late.0) (no, λ e. absurd (cc))
          ]
    ]

-- a piece that is taken
pub Progress-piece : (p q r : ReadingState) (a b : Absorbing) (old mid new : Facts) (taken : List ℕ) (n : ℕ) (room : List ℕ) → Progress p q a old mid taken
    → GivesPiece n q r room → 0 < n → FeedsPiece a (take n room) (Ok tt) b mid new → Progress p r b old new (taken ++ take n room)
Progress-piece p q r a b old mid new taken n room g h some feeds =
    let on = feeds.goes_on taken g.fed in record {
      read = piece-taken p q r taken n room g.read h some;
      fed = on.0;
      held = held-then old mid new taken (take n room) g.held on.2;
    }
