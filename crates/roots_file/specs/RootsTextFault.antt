-- The faults of a text of roots: their words, and what reading such a text returns.
use Rattle.std.specs.Prelude.{◌≡◌, ℕ, List, Result, Ok, Err, codes}
use Rattle.text_words.specs.declared.lines_fault.LineFault.{LineFault}
use Rattle.text_words.specs.declared.lines_fault.LinesFault.{LinesFault}
use Rattle.text_words.specs.declared.lines_fault.LinesFault.TheVariants.{Line, Memory}
use Rattle.roots_file.specs.declared.roots_text_fault.RootsTextError.{RootsTextError}
use Rattle.roots_file.specs.declared.roots_text_fault.RootsTextError.TheVariants.{Syntax, Guid, Repeated}

-- the fault of a line of a text of roots, with the line's number
abbrev pub RootsLineFault : Type 0
RootsLineFault = LineFault RootsTextError

-- why a text of roots is not read: the fault of a line, or a lack of memory
abbrev pub RootsTextFault : Type 0
RootsTextFault = LinesFault RootsTextError

-- the word for a fault of a line
abbrev pub wrong_word : RootsTextError → List ℕ
wrong_word Syntax = codes "syntax"
wrong_word Guid = codes "guid"
wrong_word Repeated = codes "repeated"

-- the result is `told`, which is what the text says: the roots or the first fault. The result can also be `Memory`,
-- whatever the text says
abbrev pub Reads : Result (List ℕ) RootsTextFault → Result (List ℕ) RootsLineFault → Type 0
Reads (Ok roots) told = told ≡ Ok roots
Reads (Err (Line fault)) told = told ≡ Err fault
Reads (Err Memory) told = Unit {0}
