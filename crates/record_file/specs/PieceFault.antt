-- The fault of a file whose source could not be read.
use Rattle.byte_io.specs.declared.reading.PieceFault.{PieceFault}
use Rattle.byte_io.specs.declared.reading.PieceFault.TheVariants as piece
use Rattle.record_file.specs.declared.file_fault.FileFault.{FileFault}
use Rattle.record_file.specs.declared.file_fault.FileFault.TheVariants.{Read, TooLong}

-- the fault of a file, from the fault with which reading a piece failed
abbrev pub file_fault_of : PieceFault → FileFault
file_fault_of piece.Read = Read
file_fault_of piece.TooLong = TooLong
