-- What absorbing a source returns, and what it does to the source and to the store.
use Rattle.std.specs.Prelude.{◌≡◌, ◌⊎◌, ℕ, true, nat_eq, ◌+◌, ◌<◌, ◌≤◌, ◌^◌, List, [], ◌∷◌, ◌++◌, Option, None, Result, Ok, Err, IfSome, length}
use Rattle.std.specs.List.{concat, starts_with}
use Rattle.std.specs.Io.KnownBytes.{Consumes, IsAtEnd}
use Rattle.byte_io.specs.Source.{SourceState}
use Rattle.fact_store.specs.View.{Facts, view}
use Rattle.fact_store.specs.Merge.{merge}
use Rattle.record_file.specs.declared.file_fault.FileFault.{FileFault}
use Rattle.record_file.specs.declared.file_fault.FileFault.TheVariants.{Magic, Truncated, Read, Memory, TooLong}
use Rattle.record_file.specs.declared.format.Format.{Format}
use Rattle.record_file.specs.Head.{IsFormat, floored_magic, format_in, head_bytes}
use Rattle.record_file.specs.Reading.{AreGoodRecords, Judgement, facts_in, fault_in, outcome}

-- what absorbing one record does. The sightings of a good record are merged into the store. If memory runs out, the
-- store stays. For a bad record, the result is the record's fault with `index`, and the store stays
abbrev pub AbsorbsJudged : {K : Type 0} → Judgement → ℕ → Result K FileFault → Facts → Facts → Type 0
AbsorbsJudged (Ok sightings) index (Ok key) old new = new ≡ merge old (view sightings)
AbsorbsJudged (Ok sightings) index (Err f) old new = (f ≡ Memory) × (new ≡ old)
AbsorbsJudged (Err fault) index result old new = (result ≡ Err (fault index)) × (new ≡ old)

-- `taken` is a head, at least one good record, and fewer than 4096 further bytes after the last of these records
pub record EndsBehindRecord (taken : List ℕ) : Type 0 where
  pub format : Format
  pub records : List (List ℕ)
  pub last : List ℕ
  pub behind : List ℕ
  pub sound : IsFormat format
  pub whole : taken ≡ head_bytes format ++ (concat records ++ (last ++ behind))
  pub good : AreGoodRecords format None (records ++ last ∷ [])
  pub near : length behind < 4096

-- `new` is `old` with the facts in the bytes `taken` merged into it. If memory ran out, only the facts in the head and
-- in the records before the record that needed memory were merged
abbrev pub HoldsKept : Result (Unit {0}) FileFault → Facts → Facts → List ℕ → Type 0
HoldsKept (Err Memory) old new taken =
    (wanted : EndsBehindRecord taken) × (new ≡ merge old (facts_in (head_bytes wanted.format ++ concat wanted.records)))
HoldsKept _ old new taken = new ≡ merge old (facts_in taken)

-- the answer is the outcome of `bytes`, with these exceptions: it may be `Read` or `Memory` whatever the outcome is,
-- and it may be `TooLong` if `interrupted` is true
abbrev pub AnswersOutcome : Result (Unit {0}) FileFault → List ℕ → Type 0 → Type 0
AnswersOutcome (Ok u) bytes interrupted = outcome bytes ≡ Ok u
AnswersOutcome (Err Read) bytes interrupted = Unit {0}
AnswersOutcome (Err Memory) bytes interrupted = Unit {0}
AnswersOutcome (Err TooLong) bytes interrupted = (outcome bytes ≡ Err TooLong) ⊎ interrupted
AnswersOutcome (Err f) bytes interrupted = outcome bytes ≡ Err f

-- `taken` is shorter than its head: it has fewer than 8 bytes, or it begins with the magic that a header follows and
-- has fewer than 16 bytes
abbrev pub HasNoHeadYet : List ℕ → Type 0
HasNoHeadYet taken = (length taken < 8) ⊎ ((starts_with nat_eq taken floored_magic ≡ true) × (length taken < 16))

-- `taken` is shorter than its head, or has a good head and no bad record
abbrev pub HasNoFaultYet : List ℕ → Type 0
HasNoFaultYet taken =
    HasNoHeadYet taken ⊎ ((format : Format) × (format_in taken ≡ Ok format) × (fault_in format taken ≡ None))

-- `taken` has no fault yet, or has a head and only good records, followed by fewer than 4096 further bytes
abbrev pub HasNoFaultBefore : List ℕ → Type 0
HasNoFaultBefore taken = HasNoFaultYet taken ⊎ EndsBehindRecord taken

-- when the answer is final. After success, after `Truncated`, and after `Magic` with fewer than 8 bytes taken, the
-- source is at its end. After `Read` or `TooLong`, the bytes `taken` have no fault yet
abbrev pub IsDecided : Result (Unit {0}) FileFault → List ℕ → Type 0 → Type 0
IsDecided (Ok u) taken at_end = at_end
IsDecided (Err Magic) taken at_end = length taken < 8 → at_end
IsDecided (Err (Truncated offset)) taken at_end = at_end
IsDecided (Err Read) taken at_end = HasNoFaultYet taken
IsDecided (Err TooLong) taken at_end = HasNoFaultYet taken
IsDecided _ taken at_end = Unit {0}

-- the number of bytes taken plus the number of calls interrupted meanwhile is at least 2^40. The bytes taken are
-- `bytes` without `rest`
abbrev pub WasInterruptedTooOften : List ℕ → List ℕ → ℕ → ℕ → Type 0
WasInterruptedTooOften bytes rest interruptions interruptions' =
    (2 ^ 40 + interruptions) + length rest ≤ length bytes + interruptions'

-- fewer than 2^40 bytes were taken, and fewer than 2^40 calls were interrupted. If the answer is `TooLong`, each number
-- is at most 2^40
abbrev pub IsBounded : Result (Unit {0}) FileFault → ℕ → ℕ → ℕ → Type 0
IsBounded (Err TooLong) bytes interruptions interruptions' =
    (bytes ≤ 2 ^ 40) × (interruptions' ≤ 2 ^ 40 + interruptions)
IsBounded _ bytes interruptions interruptions' = (bytes < 2 ^ 40) × (interruptions' < 2 ^ 40 + interruptions)

-- the bytes `taken` were taken from the source. The facts in `taken` were merged into the store (`HoldsKept`), and
-- `answer` is the answer for `taken` (`AnswersOutcome`)
pub record AbsorbsFrom (left left' : Option (List ℕ)) (interruptions interruptions' : ℕ)
    (answer : Result (Unit {0}) FileFault) (old new : Facts) : Type 0 where
  pub taken : List ℕ
  pub consumed : Consumes left left' taken
  pub held : HoldsKept answer old new taken
  pub answered : AnswersOutcome answer taken (WasInterruptedTooOften taken [] interruptions interruptions')
  pub decided : IsDecided answer taken (IsAtEnd left')
  pub bounded : IsBounded answer (length taken) interruptions interruptions'

-- what absorbing a source does to the source and to the store if it returns `answer`
abbrev pub Absorbs : {S : Type 0} → (S → SourceState) → Result (Unit {0}) FileFault → S → S → Facts → Facts
    → Type 0
Absorbs state answer source source' old new =
    AbsorbsFrom (state source).left (state source').left (state source).interruptions (state source').interruptions
    answer old new

-- if the bytes that the source had before and the bytes that it has left are known, the answer is the outcome of the
-- bytes that it had before, with the exceptions of `AnswersOutcome`
abbrev pub AnswersKnown : {S : Type 0} → (S → SourceState) → Result (Unit {0}) FileFault → S → S → Type 0
AnswersKnown state answer source source' =
    IfSome (state source).left (λ bytes. IfSome (state source').left
    (λ rest. AnswersOutcome answer bytes
    (WasInterruptedTooOften bytes rest (state source).interruptions (state source').interruptions)))
