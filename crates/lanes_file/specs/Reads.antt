-- The result of reading a text of lanes: what the text says, its first fault, or a lack of memory.
use Rattle.std.specs.Prelude.{◌≡◌, List, ℕ, None, Some, Result, Ok, Err}
use Rattle.text_words.specs.declared.lines_fault.LinesFault.TheVariants.{Line, Memory}
use Rattle.lanes_file.specs.LanesTextFault.{LanesTextFault}
use Rattle.lanes_file.specs.Lanes.{LanesSaid}
use Rattle.lanes_file.specs.Reading.{first_fault, lanes_said}

-- the result is what `text` says if it has no fault, or its first fault. The result can also be `Memory`, whatever the
-- text says
abbrev pub IsReadAs : List ℕ → Result LanesSaid LanesTextFault → Type 0
IsReadAs text (Ok said) = (first_fault text ≡ None) × (said ≡ lanes_said text)
IsReadAs text (Err (Line fault)) = first_fault text ≡ Some fault
IsReadAs text (Err Memory) = Unit {0}
