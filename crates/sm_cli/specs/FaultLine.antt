-- The messages of faults.
use Rattle.std.specs.Prelude.{ℕ, List, [], ◌++◌, Option, None, Some, codes, decimal, if◌then◌else◌}
use Rattle.reply_facts.specs.declared.report_fault.ReportFault.{ReportFault}
use Rattle.reply_facts.specs.ReportFault.{report_fault_name}
use Rattle.record_file.specs.declared.file_fault.FileFault.{FileFault}
use Rattle.record_file.specs.FileFault.{fault_words, fault_number, fault_of_report, is_of_file}
use Rattle.lid_assign.specs.declared.lid_fault.NoRoom.{NoRoom as Lack}
use Rattle.sm_cli.specs.declared.fault.Fault.{Fault}
use Rattle.sm_cli.specs.declared.fault.Fault.TheVariants.{Open, File, Text, NoRoom, Write, Memory}
use Rattle.sm_cli.specs.declared.text_fault.TextFault.{TextFault}
use Rattle.sm_cli.specs.TextFault.{is_of_text, said_of_text}

-- the name of a file, a colon and a space
abbrev pub name_text : List ℕ → List ℕ
name_text name = name ++ codes ": "

-- the name of a file, a colon, a space and `words`
abbrev pub named_text : List ℕ → List ℕ → List ℕ
named_text name words = name_text name ++ words

-- the number in decimal; empty for None
abbrev pub number_text : Option ℕ → List ℕ
number_text None = []
number_text (Some number) = decimal number

-- a colon and the name of the report's fault; empty for None
abbrev pub cause_text : Option ReportFault → List ℕ
cause_text None = []
cause_text (Some fault) = codes ": " ++ report_fault_name fault

-- the words about a file's fault, without the file's name
abbrev pub words_of : FileFault → List ℕ
words_of fault = fault_words fault ++ number_text (fault_number fault) ++ cause_text (fault_of_report fault)

-- the name of the file and then the words about its fault; only the words if the fault is lack of memory, which is not
-- the file's
abbrev pub file_fault_text : List ℕ → FileFault → List ℕ
file_fault_text name fault = if is_of_file fault then named_text name (words_of fault) else words_of fault

-- the name of the text and then the words about its fault; only the words if the fault is lack of memory, which is not
-- the text's
abbrev pub text_fault_text : List ℕ → TextFault → List ℕ
text_fault_text name fault = if is_of_text fault then named_text name (said_of_text fault) else said_of_text fault

-- `endports`, followed by the words `end ports`
abbrev pub count_text : ℕ → List ℕ
count_text endports = decimal endports ++ codes " end ports"

-- the message that there is no room: the number of end ports, and the room for their LIDs
abbrev pub no_room_text : Lack → List ℕ
no_room_text why = codes "no room: " ++ count_text why.endports ++ codes ", room " ++ decimal why.room

-- the message of a run that ends with a fault; `name` is the name of the input that the fault concerns, if there is one
abbrev pub fault_text : List ℕ → Fault → List ℕ
fault_text name (Open input) = named_text name (codes "cannot open")
fault_text name (File input fault) = file_fault_text name fault
fault_text name (Text input fault) = text_fault_text name fault
fault_text name (NoRoom why) = no_room_text why
fault_text name Write = codes "write failed"
fault_text name Memory = codes "out of memory"

-- a line that begins with the program's name
abbrev pub program_line : List ℕ → List ℕ
program_line text = codes "ibsm: " ++ text ++ codes "\n"
