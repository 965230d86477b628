-- What is printed about a text that is rejected: the faulty line, and a word.
use Rattle.std.specs.Prelude.{ℕ, List, Bool, true, false, ◌++◌, Option, None, Some, codes, decimal}
use Rattle.text_words.specs.declared.lines_fault.LinesFault.{LinesFault}
use Rattle.text_words.specs.declared.lines_fault.LinesFault.TheVariants.{Line, Memory}

-- whether a text was not read for lack of memory
abbrev pub is_memory : {E : Type 0} → LinesFault E → Bool
is_memory (Line fault) = false
is_memory Memory = true

-- what `{}` writes for a fault of a text; `word` gives the word for a fault of a line
abbrev pub fault_text : {E : Type 0} → (E → List ℕ) → LinesFault E → List ℕ
fault_text word (Line fault) = codes "line " ++ decimal fault.line ++ codes ": " ++ word fault.wrong
fault_text word Memory = codes "out of memory"

-- the number of the faulty line; None if memory ran out
abbrev pub fault_line : {E : Type 0} → LinesFault E → Option ℕ
fault_line (Line fault) = Some fault.line
fault_line Memory = None

-- the word for a fault of a text; `word` gives the word for a fault of a line
abbrev pub fault_word : {E : Type 0} → (E → List ℕ) → LinesFault E → List ℕ
fault_word word (Line fault) = word fault.wrong
fault_word word Memory = codes "out of memory"
