-- The message for a refused text: the faulty line, if there is one, and a word.
use Rattle.std.specs.Prelude.{ℕ, Bool, true, false, List, [], ◌++◌, Option, None, Some, codes, decimal}
use Rattle.topo_file.specs.declared.topo_fault.TopoFault.TheVariants as topology
use Rattle.topo_file.specs.TopoFault as topologies
use Rattle.schedule_file.specs.declared.schedule_fault.ScheduleFault.TheVariants as schedule
use Rattle.schedule_file.specs.ScheduleFault as schedules
use Rattle.text_words.specs.LinesFault as lines
use Rattle.text_words.specs.declared.lines_fault.LinesFault.TheVariants as line
use Rattle.tables_file.specs.TablesTextFault as tables
use Rattle.lanes_file.specs.LanesTextFault as lanes
use Rattle.roots_file.specs.RootsTextFault as roots
use Rattle.smp_bytes.specs.Text.{guid_text}
use Rattle.sm_cli.specs.declared.text_fault.TextFault.{TextFault}
use Rattle.sm_cli.specs.declared.text_fault.TextFault.TheVariants.{NotUtf8, Topology, Schedule, Tables, Lanes, Roots, NoRoot, NoSwitch, Moves}

-- if a text is refused for one of its lines, the number of this line; otherwise None
abbrev pub text_fault_line : TextFault → Option ℕ
text_fault_line NotUtf8 = None
text_fault_line (Topology fault) = topologies.fault_line fault
text_fault_line (Schedule fault) = schedules.fault_line fault
text_fault_line (Tables fault) = lines.fault_line fault
text_fault_line (Lanes fault) = lines.fault_line fault
text_fault_line (Roots fault) = lines.fault_line fault
text_fault_line NoRoot = None
text_fault_line (NoSwitch guid) = None
text_fault_line (Moves lid) = None

-- the words that say why a text is refused
abbrev pub text_fault_word : TextFault → List ℕ
text_fault_word NotUtf8 = codes "not UTF-8"
text_fault_word (Topology fault) = topologies.fault_word fault
text_fault_word (Schedule fault) = schedules.fault_word fault
text_fault_word (Tables fault) = lines.fault_word tables.wrong_word fault
text_fault_word (Lanes fault) = lines.fault_word lanes.wrong_word fault
text_fault_word (Roots fault) = lines.fault_word roots.wrong_word fault
text_fault_word NoRoot = codes "no root"
text_fault_word (NoSwitch guid) = codes "no usable switch"
text_fault_word (Moves lid) = codes "moves"

-- if the fault concerns a GUID, this GUID; otherwise None
abbrev pub text_fault_guid : TextFault → Option ℕ
text_fault_guid (NoSwitch guid) = Some guid
text_fault_guid _ = None

-- if the fault concerns a LID, this LID; otherwise None
abbrev pub text_fault_lid : TextFault → Option ℕ
text_fault_lid (Moves lid) = Some lid
text_fault_lid _ = None

-- the fault is one of the text; lack of memory is not
abbrev pub is_of_text : TextFault → Bool
is_of_text (Topology topology.Memory) = false
is_of_text (Schedule schedule.Memory) = false
is_of_text (Tables line.Memory) = false
is_of_text (Lanes line.Memory) = false
is_of_text (Roots line.Memory) = false
is_of_text _ = true

-- the number of the faulty line, written before the fault; empty for None
abbrev pub line_text : Option ℕ → List ℕ
line_text None = []
line_text (Some line) = codes "line " ++ decimal line ++ codes ": "

-- the LID that a fault concerns, written before its word; empty for None
abbrev pub lid_before : Option ℕ → List ℕ
lid_before None = []
lid_before (Some lid) = codes "lid " ++ decimal lid ++ codes " "

-- the GUID that a fault concerns, written after its word; empty for None
abbrev pub guid_behind : Option ℕ → List ℕ
guid_behind None = []
guid_behind (Some guid) = codes " " ++ guid_text guid

-- the words about the fault of a text, without the text's name
abbrev pub said_of_text : TextFault → List ℕ
said_of_text fault =
    line_text (text_fault_line fault) ++ lid_before (text_fault_lid fault) ++ text_fault_word fault
    ++ guid_behind (text_fault_guid fault)
