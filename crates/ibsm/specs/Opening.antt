-- Opening files, given by their names, one after the other. An opener is described by the answers that it gives to
-- names.
use Rattle.std.specs.Prelude.{◌≡◌, ◌⊎◌, ◌<◌, ℕ, List, [], ◌∷◌, ◌++◌, Some, Result, Ok, Err, length, slice_get}
use Rattle.std.specs.Borrow.{Bor}
use Rattle.sm_cli.specs.declared.fault.Fault.{Fault}
use Rattle.sm_cli.specs.declared.fault.Fault.TheVariants as faults
use Rattle.ibsm.specs.declared.opener.OpenFault.{OpenFault}
use Rattle.ibsm.specs.declared.opener.OpenFault.TheVariants.{Missing, Memory}

-- if a file was opened, `new` is `old` with this file appended; if not, `new` is `old`
abbrev pub OpensBehind : {S : Type 0} → (Result S OpenFault → Type 0) → Result (Unit {0}) OpenFault → List S → List S
    → Type 0
OpensBehind {S} answers (Ok u) old new = (file : S) × answers (Ok file) × (new ≡ old ++ file ∷ [])
OpensBehind answers (Err fault) old new = answers (Err fault) × (new ≡ old)

-- `files` were opened, one for each of `names`, in the order of `names`
pub record AreOpened {S : Type 0} (answers : List ℕ → Result S OpenFault
    → Type 0) (names : List (Bor (List ℕ))) (files : List S) : Type 0 where
  pub one_each : length files ≡ length names
  pub opened : (input : ℕ) (name : Bor (List ℕ)) (file : S) → slice_get names input ≡ Some name → slice_get files input
      ≡ Some file
      → answers name.now (Ok file)

-- a name that was tried is not missing: its file was opened, or memory ran out when the name was tried
abbrev pub IsThere : {S : Type 0} → (Result S OpenFault → Type 0) → Type 0
IsThere {S} answers = ((file : S) × answers (Ok file)) ⊎ answers (Err Memory)

-- none of the names before `input` is missing
abbrev pub AreThere : {S : Type 0} → (List ℕ → Result S OpenFault → Type 0) → List (Bor (List ℕ)) → ℕ → Type 0
AreThere answers names input =
    (k : ℕ) (name : Bor (List ℕ)) → k < input → slice_get names k ≡ Some name → IsThere (answers name.now)

-- the name at `input` is missing, and no earlier name is
pub record IsFirstMissing {S : Type 0} (answers : List ℕ → Result S OpenFault
    → Type 0) (names : List (Bor (List ℕ))) (input : ℕ) : Type 0 where
  pub name : Bor (List ℕ)
  pub there : slice_get names input ≡ Some name
  pub missing : answers name.now (Err Missing)
  pub before : AreThere answers names input

-- memory ran out when some name was tried
pub record WasRefusedMemory {S : Type 0} (answers : List ℕ → Result S OpenFault
    → Type 0) (names : List (Bor (List ℕ))) : Type 0 where
  pub input : ℕ
  pub name : Bor (List ℕ)
  pub there : slice_get names input ≡ Some name
  pub refused : answers name.now (Err Memory)

-- memory ran out when some name was tried, and none of the names is missing
pub record LacksMemory {S : Type 0} (answers : List ℕ → Result S OpenFault
    → Type 0) (names : List (Bor (List ℕ))) : Type 0 where
  pub refused : WasRefusedMemory answers names
  pub there : AreThere answers names (length names)

-- opening the files `names` ends with a fault: the fault has the index of the first name that is missing, or no name
-- is missing and memory ran out
abbrev pub IsOpenFault : {S : Type 0} → (List ℕ → Result S OpenFault → Type 0) → List (Bor (List ℕ)) → Fault → Type 0
IsOpenFault answers names (faults.Open input) = IsFirstMissing answers names input
IsOpenFault answers names faults.Memory = LacksMemory answers names
IsOpenFault answers names _ = ⊥
