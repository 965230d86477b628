-- What is printed about the fault of a file: its words, its number, and the fault of a report.
use Rattle.std.specs.Prelude.{ℕ, Bool, true, false, List, Option, None, Some, codes}
use Rattle.reply_facts.specs.declared.report_fault.ReportFault.{ReportFault}
use Rattle.record_file.specs.declared.file_fault.FileFault.{FileFault}
use Rattle.record_file.specs.declared.file_fault.FileFault.TheVariants.{Magic, Truncated, BadReport, BadCell, CellOrder, Read, Memory, TooLong, BadFloor}

-- the words of a fault, up to its number
abbrev pub fault_words : FileFault → List ℕ
fault_words Magic = codes "bad magic"
fault_words (Truncated offset) = codes "truncated at "
fault_words (BadReport index fault) = codes "bad report "
fault_words (BadCell index) = codes "bad cell "
fault_words (CellOrder index) = codes "cell out of order "
fault_words Read = codes "read failed"
fault_words Memory = codes "out of memory"
fault_words TooLong = codes "too long"
fault_words BadFloor = codes "bad floor"

-- the offset in a fault, or the index of the record that the fault names; None if the fault has neither
abbrev pub fault_number : FileFault → Option ℕ
fault_number (Truncated offset) = Some offset
fault_number (BadReport index fault) = Some index
fault_number (BadCell index) = Some index
fault_number (CellOrder index) = Some index
fault_number _ = None

-- the fault of the report in a `BadReport`; None for other faults
abbrev pub fault_of_report : FileFault → Option ReportFault
fault_of_report (BadReport index fault) = Some fault
fault_of_report _ = None

-- whether the fault lies with the file or its source; false only for `Memory`
abbrev pub is_of_file : FileFault → Bool
is_of_file Memory = false
is_of_file _ = true
