-- What a call that may refuse its text returns, and what is written about a fault: its line and a word.
use Rattle.std.specs.Prelude.{◌≡◌, ℕ, List, Option, None, Some, Result, Ok, Err, ◌++◌, codes, decimal}
use Rattle.schedule_file.specs.declared.schedule_fault.ScheduleFault.{ScheduleFault}
use Rattle.schedule_file.specs.declared.schedule_fault.ScheduleFault.TheVariants.{Syntax, Decides, Name, Seat, Memory}

-- the given fault is lack of memory, or `told` is this fault
abbrev pub IsRefused : {T : Type 0} → ScheduleFault → Result T ScheduleFault → Type 0
IsRefused Memory told = Unit {0}
IsRefused fault told = told ≡ Err fault

-- the given result of a call is `told`, which is a value or the first fault; or it is lack of memory
abbrev pub Reads : {T : Type 0} → Result T ScheduleFault → Result T ScheduleFault → Type 0
Reads (Ok value) told = told ≡ Ok value
Reads (Err fault) told = IsRefused fault told

-- the word that is written for the fault
abbrev pub fault_word : ScheduleFault → List ℕ
fault_word (Syntax line) = codes "syntax"
fault_word (Decides line) = codes "decides"
fault_word (Name line) = codes "name"
fault_word (Seat line) = codes "seat"
fault_word Memory = codes "out of memory"

-- the number of the faulty line, counted from 1; None for lack of memory
abbrev pub fault_line : ScheduleFault → Option ℕ
fault_line (Syntax line) = Some line
fault_line (Decides line) = Some line
fault_line (Name line) = Some line
fault_line (Seat line) = Some line
fault_line Memory = None

-- a fault's word, after its line if there is one
abbrev pub said_at : Option ℕ → List ℕ → List ℕ
said_at None word = word
said_at (Some line) word = codes "line " ++ decimal line ++ codes ": " ++ word

-- what `{}` writes for the fault
abbrev pub fault_text : ScheduleFault → List ℕ
fault_text fault = said_at (fault_line fault) (fault_word fault)
