-- The faults of a text of tables. The text of a plan is such a text.
use Rattle.std.specs.Prelude.{ℕ, List, codes}
use Rattle.text_words.specs.declared.lines_fault.LineFault.{LineFault}
use Rattle.text_words.specs.declared.lines_fault.LinesFault.{LinesFault}
use Rattle.tables_file.specs.declared.tables_text_fault.TablesTextError.{TablesTextError}
use Rattle.tables_file.specs.declared.tables_text_fault.TablesTextError.TheVariants.{Syntax, Lid, Port, Lmc, Switch, Block}

-- a fault of a line, with the line's number
abbrev pub TablesLineFault : Type 0
TablesLineFault = LineFault TablesTextError

-- the reason why a text of tables is refused: the fault of a line, or lack of memory
abbrev pub TablesTextFault : Type 0
TablesTextFault = LinesFault TablesTextError

-- the word that is printed for a fault of a line
abbrev pub wrong_word : TablesTextError → List ℕ
wrong_word Syntax = codes "syntax"
wrong_word Lid = codes "lid"
wrong_word Port = codes "port"
wrong_word Lmc = codes "lmc"
wrong_word Switch = codes "switch"
wrong_word Block = codes "block"
