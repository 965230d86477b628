-- The text of the tables that switches hold and the files after it, and a text that may come before both.
use Rattle.std.specs.Prelude.{◌≡◌, ◌⊎◌, ◌+◌, ℕ, Bool, List, Option}
use Rattle.byte_io.specs.Source.{SourceState}
use Rattle.tables_file.specs.Held.{HeldPlan}
use Rattle.sm_cli.specs.Asked.{texts_if}
use Rattle.sm_cli.specs.declared.fault.Fault.{Fault}
use Rattle.sm_cli.specs.declared.text_fault.TextFault.{TextFault}
use Rattle.sm_cli.specs.declared.input_tables.TablesAndFacts.{TablesAndFacts}
use Rattle.sm_cli.specs.declared.input_tables.TextAndTables.{TextAndTables}
use Rattle.sm_cli.specs.FromText.{IsTablesFault, SaysTables}
use Rattle.sm_cli.specs.InputFiles.{HasRead, IsRefusedFile}
use Rattle.sm_cli.specs.InputTexts.{IsNoText, IsNoTextIf, IsText, IsTextIf}
use Rattle.sm_cli.specs.Sources.{AreReadInParts, IsOneRead}

-- there is one source, and its text of tables was read to its end and says `held`
abbrev pub AreTables : {S : Type 0} → (S → SourceState) → List S → List S → HeldPlan → Type 0
AreTables state olds news held = IsOneRead olds news (λ old new. IsText state SaysTables old new held)

-- there is one source, the input `at`, and reading its text of tables fails with `fault`
abbrev pub AreNoTables : {S : Type 0} → (S → SourceState) → ℕ → List S → List S → Fault → Type 0
AreNoTables state at olds news fault = IsOneRead olds news (λ old new. IsNoText state IsTablesFault at old new fault)

-- files ------------------------------------------------------------------------------------------

-- the tables and then the files were read, and say `told`; the files are read at the greatest of their floors
abbrev pub AreTablesAndFiles : {S : Type 0} → (S → SourceState) → List S → List S → TablesAndFacts → Type 0
AreTablesAndFiles state olds news told =
    AreReadInParts olds news (λ os ns. AreTables state os ns told.held) (λ os ns. HasRead state 1 os ns told.store)

-- reading the tables, the input `at`, fails with `fault`, and no file was touched
abbrev pub StopsAtTables : {S : Type 0} → (S → SourceState) → ℕ → List S → List S → Fault → Type 0
StopsAtTables state at olds news fault =
    AreReadInParts olds news (λ os ns. AreNoTables state at os ns fault) (λ os ns. ns ≡ os)

-- the tables, the input `at`, were read, and reading a file after them fails with `fault`
abbrev pub StopsAtFiles : {S : Type 0} → (S → SourceState) → ℕ → List S → List S → Fault → Type 0
StopsAtFiles state at olds news fault =
    (held : HeldPlan) × AreReadInParts olds news (λ os ns. AreTables state os ns held)
    (λ os ns. IsRefusedFile state (at + 1) os ns fault)

-- reading the tables, the input `at`, or the files after them, fails with `fault`
abbrev pub AreNoTablesAndFiles : {S : Type 0} → (S → SourceState) → ℕ → List S → List S → Fault → Type 0
AreNoTablesAndFiles state at olds news fault =
    StopsAtTables state at olds news fault ⊎ StopsAtFiles state at olds news fault

-- a text before both -----------------------------------------------------------------------------

-- the text, if `has_text` is true, then the tables and then the files were read, and say `told`
abbrev pub AreTextAndTables : {S T : Type 0} → (S → SourceState) → (List ℕ → T → Type 0) → Bool → List S → List S
    → TextAndTables T → Type 0
AreTextAndTables state says has_text olds news told =
    AreReadInParts olds news (λ os ns. IsTextIf state says has_text os ns told.text)
    (λ os ns. AreTablesAndFiles state os ns told.read)

module _ {S T : Type 0} (state : S → SourceState) (says : List ℕ → T → Type 0) (is_refused : List ℕ → TextFault → Type 0) where
  -- reading the text, the input `at`, fails with `fault`, and no other input was touched
  abbrev pub StopsAtText : Bool → ℕ → List S → List S → Fault → Type 0
  StopsAtText has_text at olds news fault =
      AreReadInParts olds news (λ os ns. IsNoTextIf state is_refused has_text at os ns fault) (λ os ns. ns ≡ os)

  -- the text, the input `at`, was read, if there is one, and reading the tables or a file after it fails with `fault`
  abbrev pub StopsBehindText : Bool → ℕ → List S → List S → Fault → Type 0
  StopsBehindText has_text at olds news fault =
      (text : Option T) × AreReadInParts olds news (λ os ns. IsTextIf state says has_text os ns text)
      (λ os ns. AreNoTablesAndFiles state (at + texts_if has_text) os ns fault)

  -- reading the text, the input `at`, or the tables and files after it, fails with `fault`
  abbrev pub AreNoTextAndTables : Bool → ℕ → List S → List S → Fault → Type 0
  AreNoTextAndTables has_text at olds news fault =
      StopsAtText has_text at olds news fault ⊎ StopsBehindText has_text at olds news fault
