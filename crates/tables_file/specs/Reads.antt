-- The result of reading a text of tables: what it says, its first fault, or lack of memory.
use Rattle.std.specs.Prelude.{◌≡◌, List, ℕ, None, Some, Result, Ok, Err}
use Rattle.tables_file.specs.TablesTextFault.{TablesTextFault}
use Rattle.text_words.specs.declared.lines_fault.LinesFault.TheVariants.{Line, Memory}
use Rattle.held_tables.specs.Held.{HeldPlan}
use Rattle.tables_file.specs.Reading.{first_fault, held_of}

-- the result is what `text` says if it has no fault, or is its first fault; or it is lack of memory, which is
-- possible for any text
abbrev pub IsReadAs : List ℕ → Result HeldPlan TablesTextFault → Type 0
IsReadAs text (Ok held) = (first_fault text ≡ None) × (held ≡ held_of text)
IsReadAs text (Err (Line fault)) = first_fault text ≡ Some fault
IsReadAs text (Err Memory) = Unit {0}
