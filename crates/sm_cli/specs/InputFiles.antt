-- The files of a run: what is read from each, what they say together, and why one is refused.
use Rattle.std.specs.Prelude.{◌≡◌, ◌↔◌, ◌+◌, ℕ, max, map, fold, false, List, [], Some, Ok, Err, IsTrue, length, slice_get}
use Rattle.std.specs.List.{flat_map}
use Rattle.std.specs.Io.KnownBytes.{Consumes, IsAtEnd}
use Rattle.byte_io.specs.Source.{SourceState}
use Rattle.fact_store.specs.Merge.{merge}
use Rattle.fact_store.specs.View.{Facts, view_at}
use Rattle.record_file.specs.Absorbs.{AnswersKnown, AnswersOutcome, HasNoFaultBefore, IsBounded, IsDecided, WasInterruptedTooOften}
use Rattle.record_file.specs.Reading.{facts_in, floor_in, kept, outcome}
use Rattle.record_file.specs.declared.file_fault.FileFault.{FileFault}
use Rattle.record_file.specs.declared.file_fault.FileFault.TheVariants.{Read, Memory as NoMemory}
use Rattle.sm_cli.specs.declared.fault.Fault.{Fault}
use Rattle.sm_cli.specs.declared.fault.Fault.TheVariants.{File}

-- the greatest of `floor` and the floors of `files`
abbrev pub floor_among : ℕ → List (List ℕ) → ℕ
floor_among floor files = fold max floor (map floor_in files)

-- the view of `files` together, at the greatest of `floor` and their floors; of each file, the records before its
-- first bad one count
abbrev pub facts_of : ℕ → List (List ℕ) → Facts
facts_of floor files = view_at (floor_among floor files) (flat_map kept files)

-- the source was read to its end without a failure, and its bytes are `file`, which is accepted
pub record IsReadAs {S : Type 0} (state : S → SourceState) (old new : S) (file : List ℕ) : Type 0 where
  pub consumed : Consumes (state old).left (state new).left file
  pub at_end : IsAtEnd (state new).left
  pub accepted : outcome file ≡ Ok tt
  pub works : (state new).has_failed ≡ false

-- the source was read to its end, and merging what its file says into `facts` gives `facts'`
pub record ReadsInto {S : Type 0} (state : S → SourceState) (old new : S) (facts facts' : Facts) : Type 0 where
  pub file : List ℕ
  pub read : IsReadAs state old new file
  pub merged : facts' ≡ merge facts (facts_in file)

-- the source at `input` was read to its end without a failure, and its bytes are `file`, which is accepted
pub record IsReadAt {S : Type 0} (state : S → SourceState) (olds news : List S) (input : ℕ)
    (file : List ℕ) : Type 0 where
  pub old : S
  pub new : S
  pub there : slice_get olds input ≡ Some old
  pub there_after : slice_get news input ≡ Some new
  pub read : IsReadAs state old new file

-- for each of `files`, the source at the same index was read to its end without a failure, and its bytes are this
-- file, which is accepted
abbrev pub AreReadAs : {S : Type 0} → (S → SourceState) → List S → List S → List (List ℕ) → Type 0
AreReadAs state olds news files =
    (input : ℕ) (file : List ℕ) → slice_get files input ≡ Some file → IsReadAt state olds news input file

-- all sources were read, and `facts` is what the sources' files say together, at the greatest of `floor` and the
-- files' floors
pub record HasRead {S : Type 0} (state : S → SourceState) (floor : ℕ) (olds news : List S)
    (facts : Facts) : Type 0 where
  pub files : List (List ℕ)
  pub one_each : length files ≡ length olds
  pub read : AreReadAs state olds news files
  pub told : facts ≡ facts_of floor files

-- reading the source ended with `fault`: it is the first fault of the bytes taken, or a read or an allocation failed
-- before any fault of the bytes
pub record Refuses {S : Type 0} (state : S → SourceState) (old new : S) (fault : FileFault) : Type 0 where
  pub taken : List ℕ
  pub consumed : Consumes (state old).left (state new).left taken
  pub answered : AnswersOutcome (Err fault) taken
      (WasInterruptedTooOften taken [] (state old).interruptions (state new).interruptions)
  pub decided : IsDecided (Err fault) taken (IsAtEnd (state new).left)
  pub bounded : IsBounded (Err fault) (length taken) (state old).interruptions (state new).interruptions
  pub no_fault_before : fault ≡ NoMemory → HasNoFaultBefore taken
  pub read : (fault ≡ Read) ↔ IsTrue (state new).has_failed
  pub known : AnswersKnown state (Err fault) old new

-- the sources before `input` were read, and reading the source at `input` ends with `fault`
pub record RefusesFile {S : Type 0} (state : S → SourceState) (olds news : List S) (input : ℕ)
    (fault : FileFault) : Type 0 where
  pub files : List (List ℕ)
  pub as_many : length files ≡ input
  pub read : AreReadAs state olds news files
  pub old : S
  pub new : S
  pub there : slice_get olds input ≡ Some old
  pub there_after : slice_get news input ≡ Some new
  pub refuses : Refuses state old new fault

-- the file at the input `input`, counted with the `before` inputs that precede the files, is refused for `fault`
pub record IsRefusedAt {S : Type 0} (state : S → SourceState) (before : ℕ) (olds news : List S)
    (input : ℕ) (fault : FileFault) : Type 0 where
  pub index : ℕ
  pub is : input ≡ before + index
  pub refuses : RefusesFile state olds news index fault

-- reading the files ends with `fault`, which is the fault of a file; `before` inputs precede the files
abbrev pub IsRefusedFile : {S : Type 0} → (S → SourceState) → ℕ → List S → List S → Fault
    → Type 0
IsRefusedFile state before olds news (File input fault) =
    IsRefusedAt state before olds news input fault
IsRefusedFile state before olds news fault = ⊥
