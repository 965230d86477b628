-- The faults of a text of lanes.
use Rattle.std.specs.Prelude.{ℕ, List, codes}
use Rattle.text_words.specs.declared.lines_fault.LineFault.{LineFault}
use Rattle.text_words.specs.declared.lines_fault.LinesFault.{LinesFault}
use Rattle.lanes_file.specs.declared.lanes_text_fault.LanesTextError.{LanesTextError}
use Rattle.lanes_file.specs.declared.lanes_text_fault.LanesTextError.TheVariants.{Syntax, Port, Block, Lane, Level, Repeated}

-- a fault of a line of a text of lanes, with the number of the line
abbrev pub LanesLineFault : Type 0
LanesLineFault = LineFault LanesTextError

-- why a text of lanes is refused: the fault of a line, or a lack of memory
abbrev pub LanesTextFault : Type 0
LanesTextFault = LinesFault LanesTextError

-- the word that is printed for a fault of a line
abbrev pub wrong_word : LanesTextError → List ℕ
wrong_word Syntax = codes "syntax"
wrong_word Port = codes "port"
wrong_word Block = codes "block"
wrong_word Lane = codes "lane"
wrong_word Level = codes "level"
wrong_word Repeated = codes "repeated"
