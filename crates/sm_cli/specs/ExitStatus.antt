-- The exit status of a run, and the status that each fault gives.
use Rattle.std.specs.Prelude.{ℕ, if◌then◌else◌}
use Rattle.record_file.specs.declared.file_fault.FileFault.{FileFault}
use Rattle.record_file.specs.declared.file_fault.FileFault.TheVariants.{Magic, Truncated, BadReport, BadCell, CellOrder, Read, Memory as NoMemoryForFile}
use Rattle.record_file.specs.declared.file_fault.FileFault.TheVariants.{TooLong, BadFloor}
use Rattle.sm_cli.specs.declared.fault.Fault.{Fault}
use Rattle.sm_cli.specs.declared.fault.Fault.TheVariants.{Open, File, Text, NoRoom, Write, Memory as NoMemory}
use Rattle.sm_cli.specs.TextFault.{is_of_text}
use Rattle.sm_cli.specs.declared.exit_status.ExitStatus.{ExitStatus}
use Rattle.sm_cli.specs.declared.exit_status.ExitStatus.TheVariants.{Done, Failed, Usage, Refused, InputOutput, Memory}

-- the exit status as a number
abbrev pub code_of : ExitStatus → ℕ
code_of Done = 0
code_of Failed = 1
code_of Usage = 2
code_of Refused = 3
code_of InputOutput = 4
code_of Memory = 5

-- the exit status of a run that ends with the fault of a file
abbrev pub file_status : FileFault → ExitStatus
file_status Magic = Refused
file_status (Truncated offset) = Refused
file_status (BadReport index fault) = Refused
file_status (BadCell index) = Refused
file_status (CellOrder index) = Refused
file_status Read = InputOutput
file_status NoMemoryForFile = Memory
file_status TooLong = Refused
file_status BadFloor = Refused

-- the exit status of a run that ends with a fault
abbrev pub status_of : Fault → ExitStatus
status_of (Open input) = InputOutput
status_of (File input fault) = file_status fault
status_of (Text input fault) = if is_of_text fault then Refused else Memory
status_of (NoRoom why) = Refused
status_of Write = InputOutput
status_of NoMemory = Memory
