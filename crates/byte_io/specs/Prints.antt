-- What a call that may write nothing does to a sink, and how much it has written if it ends early.
use Rattle.std.specs.Prelude.{◌≡◌, ℕ, Bool, true, false, List, ◌++◌, Option, Result, Ok, Err, IsTrue}
use Rattle.std.specs.Io.KnownBytes.{Appends}
use Rattle.byte_io.specs.declared.sink.WriteFault.{WriteFault}

-- `text` was appended to the sink's bytes, and the sink did not fail meanwhile
pub record Prints {W : Type 0} (written : W → Option (List ℕ)) (has_failed : W
    → Bool) (old new : W) (text : List ℕ) : Type 0 where
  pub grown : Appends (written old) (written new) text
  pub works : has_failed old ≡ false → has_failed new ≡ false

-- a prefix of `text` was appended to the sink's bytes, and the sink did not fail meanwhile
pub record PrintsSome {W : Type 0} (written : W → Option (List ℕ)) (has_failed : W
    → Bool) (old new : W) (text : List ℕ) : Type 0 where
  pub front : List ℕ
  pub rest : List ℕ
  pub parts : front ++ rest ≡ text
  pub prints : Prints written has_failed old new front

-- what a call writes that ends in a fault: if the fault is one of writing, the sink has failed, and what was written is
-- unspecified; otherwise a prefix of `text` was written
abbrev pub EndsEarly : {W : Type 0} → (W → Option (List ℕ)) → (W → Bool) → Bool → W → W → List ℕ → Type 0
EndsEarly written has_failed true old new text = IsTrue (has_failed new)
EndsEarly written has_failed false old new text = PrintsSome written has_failed old new text

-- what a call writes, given its result: `text` if the call succeeds, and otherwise what `EndsEarly` says. `is_write`
-- says which faults are those of writing
abbrev pub PrintsUpTo : {W T F : Type 0} → (F → Bool) → (W → Option (List ℕ)) → (W → Bool) → Result T F → W → W
    → List ℕ → Type 0
PrintsUpTo is_write written has_failed (Ok value) old new text = Prints written has_failed old new text
PrintsUpTo is_write written has_failed (Err fault) old new text =
    EndsEarly written has_failed (is_write fault) old new text

-- what a call that fails only by writing does to a sink: after `Ok`, `text` was appended to the sink's bytes, and the
-- sink did not fail meanwhile; after `Err`, the sink has failed
abbrev pub WritesPart : {W T : Type 0} → (W → Option (List ℕ)) → (W → Bool) → Result T WriteFault → W → W → List ℕ
    → Type 0
WritesPart {T = T} = PrintsUpTo {T = T} (λ fault. true)
