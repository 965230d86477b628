-- Laws of files that come in pieces: it does not matter where their bytes are cut.
use Rattle.std.specs.Prelude.{◌≡◌, ℕ, List, [], ◌∷◌, ◌++◌, Some, Result, Err}
use Rattle.std.specs.List.{concat}
use Rattle.fact_store.specs.View.{Facts}
use Rattle.fact_store.specs.Merge.{merge}
use Rattle.record_file.specs.declared.file_fault.FileFault.{FileFault}
use Rattle.record_file.specs.declared.file_fault.FileFault.TheVariants.{Memory}
use Rattle.record_file.specs.Feeding.{Absorbing, FeedsPiece, Finishes, WasFed, fault_so_far}
use Rattle.record_file.specs.Reading.{facts_in, floor_in, kept, outcome}

-- the pieces are fed to the absorber `a` one after another, and memory does not run out at any of them
abbrev pub FeedsEach : List (List ℕ) → Absorbing → Absorbing → Facts → Facts → Type 0
FeedsEach [] a a' old new = (a' ≡ a) × (new ≡ old)
FeedsEach (piece ∷ pieces) a a' old new =
    (answer : Result (Unit {0}) FileFault) × (next : Absorbing) × (mid : Facts)
    × FeedsPiece a piece answer next old mid × (answer ≡ Err Memory → ⊥) × FeedsEach pieces next a' mid new

-- a new absorber is fed `pieces`, and memory does not run out at any of them. The absorber is then finished, with
-- `answer`
pub record ReadsPieces (pieces : List (List ℕ)) (answer : Result (Unit {0}) FileFault) (old new : Facts) : Type 0 where
  pub a : Absorbing
  pub a' : Absorbing
  pub fresh : WasFed a []
  pub feeds : FeedsEach pieces a a' old new
  pub finishes : Finishes a' answer

-- if memory does not run out, pieces give the outcome of all their bytes together, and the facts in these bytes are
-- merged into the store
abbrev pub PiecesAreRead : Type 0
PiecesAreRead =
    (pieces : List (List ℕ)) (answer : Result (Unit {0}) FileFault) (old new : Facts)
    → ReadsPieces pieces answer old new
    → (answer ≡ outcome (concat pieces)) × (new ≡ merge old (facts_in (concat pieces)))

-- if memory runs out in neither case, pieces give the same answer and the same store as all their bytes in one piece
abbrev pub CutsChangeNothing : Type 0
CutsChangeNothing =
    (pieces : List (List ℕ)) (answer whole_answer : Result (Unit {0}) FileFault) (old new whole_new : Facts)
    → ReadsPieces pieces answer old new
    → ReadsPieces (concat pieces ∷ []) whole_answer old whole_new → (answer ≡ whole_answer) × (new ≡ whole_new)

-- if `bytes` have a fault, no bytes that follow them matter: `bytes ++ rest` has the same fault, and the sightings that
-- are kept and the floor are those of `bytes`
abbrev pub FaultsStay : Type 0
FaultsStay =
    (bytes rest : List ℕ) (fault : FileFault) → fault_so_far bytes ≡ Some fault
    → (fault_so_far (bytes ++ rest) ≡ Some fault) × (kept (bytes ++ rest) ≡ kept bytes)
    × (floor_in (bytes ++ rest) ≡ floor_in bytes)
