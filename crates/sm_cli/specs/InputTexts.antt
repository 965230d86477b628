-- A text among the inputs of a run, which is read whole and then parsed: what it says, and why it is refused. What a
-- text says, and for which faults it is refused, are those of its kind.
use Rattle.std.specs.Prelude.{◌≡◌, ℕ, Bool, true, false, List, Option, None, Some}
use Rattle.byte_io.specs.Source.{SourceState}
use Rattle.record_file.specs.Whole.{IsReadWhole, FailsToRead}
use Rattle.sm_cli.specs.declared.fault.Fault.{Fault}
use Rattle.sm_cli.specs.declared.fault.Fault.TheVariants.{File, Text}
use Rattle.sm_cli.specs.declared.text_fault.TextFault.{TextFault}
use Rattle.sm_cli.specs.Sources.{IsOneRead}

module _ {S T : Type 0} (state : S → SourceState) (says : List ℕ → T → Type 0) where
  -- the source was read to its end, and its text says `told`
  pub record IsText (old new : S) (told : T) : Type 0 where
    pub text : List ℕ
    pub read : IsReadWhole state old new text
    pub said : says text told

  -- the text was read and says `told`, if it is asked for. If it is not (false), there is none, and no input was touched
  abbrev pub IsTextIf : Bool → List S → List S → Option T → Type 0
  IsTextIf false olds news told = (news ≡ olds) × (told ≡ None)
  IsTextIf true olds news None = ⊥
  IsTextIf true olds news (Some told) = IsOneRead olds news (λ old new. IsText old new told)

module _ {S : Type 0} (state : S → SourceState) (is_refused : List ℕ → TextFault → Type 0) where
  -- the source was read to its end, and its text is refused for `fault`
  pub record RefusesText (old new : S) (fault : TextFault) : Type 0 where
    pub text : List ℕ
    pub read : IsReadWhole state old new text
    pub refused : is_refused text fault

  -- reading the text, the input `at`, fails with a fault of the run: the source fails, or its text is refused
  abbrev pub IsNoText : ℕ → S → S → Fault → Type 0
  IsNoText at old new (File input fault) = (input ≡ at) × FailsToRead state old new fault
  IsNoText at old new (Text input fault) = (input ≡ at) × RefusesText old new fault
  IsNoText at old new fault = ⊥

  -- reading the text, the input `at`, fails with `fault`; never if it is not asked for (false)
  abbrev pub IsNoTextIf : Bool → ℕ → List S → List S → Fault → Type 0
  IsNoTextIf false at olds news fault = ⊥
  IsNoTextIf true at olds news fault = IsOneRead olds news (λ old new. IsNoText at old new fault)
