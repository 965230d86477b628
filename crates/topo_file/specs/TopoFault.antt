-- What a call that may refuse its text returns, and what is written about a fault: its line and a word.
use Rattle.std.specs.Prelude.{◌≡◌, ℕ, List, Option, None, Some, Result, Ok, Err, ◌++◌, codes, decimal}
use Rattle.topo_file.specs.declared.topo_fault.TopoFault.{TopoFault}
use Rattle.topo_file.specs.declared.topo_fault.TopoFault.TheVariants.{Syntax, Name, Ports, Peer, Port, Linked, GuidRange, TooManyNodes, Memory}

-- the given fault is lack of memory, or `told` is this fault
abbrev pub IsRefused : {T : Type 0} → TopoFault → Result T TopoFault → Type 0
IsRefused Memory told = Unit {0}
IsRefused fault told = told ≡ Err fault

-- the given result of a call is a value that `seen` turns into the value in `told`, or the fault in `told`, or lack
-- of memory
abbrev pub ReadsAs : {S T : Type 0} → (S → T) → Result S TopoFault → Result T TopoFault → Type 0
ReadsAs seen (Ok value) told = told ≡ Ok (seen value)
ReadsAs seen (Err fault) told = IsRefused fault told

-- the result of a call, `result`, is `told`, which is a value or the first fault; or it is lack of memory
abbrev pub Reads : {T : Type 0} → Result T TopoFault → Result T TopoFault → Type 0
Reads result told = ReadsAs (λ value. value) result told

-- the word that is written for the fault
abbrev pub fault_word : TopoFault → List ℕ
fault_word (Syntax line) = codes "syntax"
fault_word (Name line) = codes "name"
fault_word (Ports line) = codes "ports"
fault_word (Peer line) = codes "peer"
fault_word (Port line) = codes "port"
fault_word (Linked line) = codes "linked"
fault_word (GuidRange line) = codes "guid"
fault_word (TooManyNodes line) = codes "too many nodes"
fault_word Memory = codes "out of memory"

-- the number of the faulty line, counted from 1; None for lack of memory
abbrev pub fault_line : TopoFault → Option ℕ
fault_line (Syntax line) = Some line
fault_line (Name line) = Some line
fault_line (Ports line) = Some line
fault_line (Peer line) = Some line
fault_line (Port line) = Some line
fault_line (Linked line) = Some line
fault_line (GuidRange line) = Some line
fault_line (TooManyNodes line) = Some line
fault_line Memory = None

-- a fault's word, after its line if there is one
abbrev pub said_at : Option ℕ → List ℕ → List ℕ
said_at None word = word
said_at (Some line) word = codes "line " ++ decimal line ++ codes ": " ++ word

-- what `{}` writes for the fault
abbrev pub fault_text : TopoFault → List ℕ
fault_text fault = said_at (fault_line fault) (fault_word fault)
