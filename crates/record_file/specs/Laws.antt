-- Laws of reading files: what is accepted, which fault is found first, and that a fault of the head or a record stays.
use Rattle.std.specs.Prelude.{◌≡◌, ◌↔◌, ℕ, ◌+◌, ◌*◌, ◌<◌, ◌≤◌, ◌^◌, List, ◌++◌, None, Some, Ok, Err, length}
use Rattle.std.specs.Prelude.{slice_index}
use Rattle.std.specs.List.{concat}
use Rattle.reply_facts.specs.declared.report.Report.{Report}
use Rattle.record_file.specs.declared.file_fault.FileFault.{FileFault}
use Rattle.record_file.specs.declared.file_fault.FileFault.TheVariants.{Truncated, BadReport, BadCell, CellOrder}
use Rattle.record_file.specs.declared.file_fault.FileFault.TheVariants.{BadFloor}
use Rattle.record_file.specs.declared.format.Format.{Format}
use Rattle.record_file.specs.declared.format.Format.TheVariants.{Reports}
use Rattle.record_file.specs.Head.{IsFormat, format_in, head_bytes, head_size}
use Rattle.record_file.specs.Reading.{AreGoodRecords, floor_in, judged, kept, last_key, outcome, record_size}
use Rattle.record_file.specs.ReportRecord.{context_guid, report_bytes, report_of}
use Rattle.record_file.specs.ReportFile.{IsReportFile}

-- the fault is that of a bad header or a bad record
abbrev pub IsBadPart : FileFault → Type 0
IsBadPart BadFloor = Unit {0}
IsBadPart (BadReport index f) = Unit {0}
IsBadPart (BadCell index) = Unit {0}
IsBadPart (CellOrder index) = Unit {0}
IsBadPart _ = ⊥

-- if `rest` follows `bytes`, the outcome is the fault `f`. The sightings that are kept and the floor are those of
-- `bytes` alone
pub record StaysBad (bytes rest : List ℕ) (f : FileFault) : Type 0 where
  pub outcome_stays : outcome (bytes ++ rest) ≡ Err f
  pub kept_stays : kept (bytes ++ rest) ≡ kept bytes
  pub floor_stays : floor_in (bytes ++ rest) ≡ floor_in bytes

-- if bytes have a bad header or a bad record, their outcome, the sightings that are kept of them and their floor stay
-- the same, whatever follows
abbrev pub BadPartStays : Type 0
BadPartStays = (bytes rest : List ℕ) (f : FileFault) → IsBadPart f → outcome bytes ≡ Err f → StaysBad bytes rest f

-- each number of `bytes` is less than 256
abbrev pub AreBytes : List ℕ → Type 0
AreBytes bytes = (i : ℕ) → slice_index bytes i < 256

-- a report fits in a record: it has a generation less than 2^32, a GUID less than 2^64, and a reply of 256 bytes
pub record IsWritable (r : Report) : Type 0 where
  pub generation : r.generation < 2 ^ 32
  pub guid : context_guid r.context < 2 ^ 64
  pub reply : length r.bytes ≡ 256

-- if the report `r` fits in a record (`IsWritable`), 272 bytes spell `r` exactly when they are the record of `r`
abbrev pub ReportsHaveOneSpelling : Type 0
ReportsHaveOneSpelling =
    (bytes : List ℕ) (r : Report) → length bytes ≡ 272 → AreBytes bytes → IsWritable r → (report_of bytes ≡ Some r)
    ↔ (bytes ≡ report_bytes r)

-- if a file has good records and then the first bytes of another record, and fewer than 2^40 bytes in all, it is
-- truncated at the offset of that record
abbrev pub TruncationIsTold : Type 0
TruncationIsTold =
    (format : Format) (rs : List (List ℕ)) (part : List ℕ) → IsFormat format → AreGoodRecords format None rs → 0
    < length part
    → length part < record_size format → length (head_bytes format ++ (concat rs ++ part)) < 2 ^ 40
    → outcome (head_bytes format ++ (concat rs ++ part))
    ≡ Err (Truncated (head_size format + record_size format * length rs))

-- if a file has a bad record after good records, and the bad record ends within the first 2^40 bytes, the file has the
-- fault of this record at its index, whatever follows
abbrev pub FirstBadRecordIsTold : Type 0
FirstBadRecordIsTold =
    (format : Format) (rs : List (List ℕ)) (r rest : List ℕ) (f : ℕ → FileFault) → IsFormat format
    → AreGoodRecords format None rs
    → length r ≡ record_size format → judged format (last_key format None rs) r ≡ Err f
    → length (head_bytes format ++ (concat rs ++ r)) ≤ 2 ^ 40
    → outcome (head_bytes format ++ (concat rs ++ (r ++ rest))) ≡ Err (f (length rs))

-- bytes have the head of a file of reports and are accepted exactly when they are fewer than 2^40 bytes and are the
-- file of some good reports
abbrev pub ReportFilesAreAccepted : Type 0
ReportFilesAreAccepted = (bytes : List ℕ) → ((format_in bytes ≡ Ok Reports) × (outcome bytes ≡ Ok tt))
    ↔ ((rs : List (List ℕ)) × IsReportFile bytes rs)

-- `front` and `back` are accepted and have the floor of `whole`. What the two keep, one after the other, is what
-- `whole` keeps
pub record AreParts (whole front back : List ℕ) : Type 0 where
  pub front_accepted : outcome front ≡ Ok tt
  pub back_accepted : outcome back ≡ Ok tt
  pub together : kept whole ≡ kept front ++ kept back
  pub front_floor : floor_in front ≡ floor_in whole
  pub back_floor : floor_in back ≡ floor_in whole
