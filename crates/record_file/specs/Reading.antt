-- What reading any bytes as a file gives: the outcome, the sightings that are kept, and the floor. A file is a head
-- followed by records of one size.
use Rattle.std.specs.Prelude.{◌≡◌, ℕ, zero, suc, ◌+◌, ◌-◌, ◌*◌, ◌/◌, ◌%◌, ◌^◌, ◌==◌, List, [], ◌∷◌, ◌++◌, Option, None, Some, Result, Ok, Err, IsOk, length}
use Rattle.std.specs.Prelude.{Bool, true, take, drop, nat_le, option_map, if◌then◌else◌}
use Rattle.fact_join.specs.declared.cell.Cell.{Cell}
use Rattle.reply_facts.specs.declared.key.Key.{Key}
use Rattle.reply_facts.specs.declared.value.Value.{Value}
use Rattle.reply_facts.specs.declared.report_fault.ReportFault.{ReportFault}
use Rattle.fact_store.specs.Floor.{is_kept}
use Rattle.reply_facts.specs.Key.{is_above}
use Rattle.fact_store.specs.View.{Facts, view_at}
use Rattle.record_file.specs.declared.file_fault.FileFault.{FileFault}
use Rattle.record_file.specs.declared.file_fault.FileFault.TheVariants.{Truncated, BadReport, BadCell, CellOrder, TooLong}
use Rattle.record_file.specs.declared.format.Format.{Format}
use Rattle.record_file.specs.declared.format.Format.TheVariants.{Reports, Cells}
use Rattle.record_file.specs.CellRecord.{cell_of}
use Rattle.record_file.specs.Head.{floor_of, format_in, head_size}
use Rattle.record_file.specs.ReportRecord.{report_judged}

-- the number of bytes of a record in a file of this format
abbrev pub record_size : Format → ℕ
record_size Reports = 272
record_size (Cells head_floor) = 32

-- what a record says: its sightings, or its fault, as a function of its index
abbrev pub Judgement : Type 0
Judgement = Result (List (Key × Cell Value)) (ℕ → FileFault)

-- the `Judgement` of a report: its sightings, or `BadReport` with its fault
abbrev pub of_report : Result (List (Key × Cell Value)) ReportFault → Judgement
of_report (Ok sightings) = Ok sightings
of_report (Err f) = Err (λ index. BadReport index f)

-- whether `cell` is at or above the floor in the head; true if the head has no floor
abbrev pub is_at_told : Option ℕ → Cell Value → Bool
is_at_told None cell = true
is_at_told (Some floor) cell = is_kept floor cell

-- the `Judgement` of a cell's record. It is the sighting of the record; `BadCell` if the record does not spell a
-- sighting, or spells one below the floor in the head; `CellOrder` if its key does not come after `last`
abbrev pub of_cell : Option ℕ → Option Key → Option (Key × Cell Value) → Judgement
of_cell head_floor last None = Err BadCell
of_cell head_floor last (Some e) =
    if is_at_told head_floor e.1 then (if is_above last e.0 then Ok (e ∷ []) else Err CellOrder) else Err BadCell

-- the `Judgement` of the record `bytes` in a file of this format. `last` is the key of the cell in the record before
-- it, if there is one
abbrev pub judged : Format → Option Key → List ℕ → Judgement
judged Reports last bytes = of_report (report_judged bytes)
judged (Cells head_floor) last bytes = of_cell head_floor last (cell_of bytes)

-- if a record of a store file spells a cell, the cell's key; otherwise None
abbrev pub key_in : Format → List ℕ → Option Key
key_in Reports bytes = None
key_in (Cells head_floor) bytes = option_map (λ e. e.0) (cell_of bytes)

-- the key in the last of some records (`key_in`); `last` if there is no record
abbrev pub last_key : Format → Option Key → List (List ℕ) → Option Key
last_key format last [] = last
last_key format last (r ∷ rs) = last_key format (key_in format r) rs

-- the first `n` records of `size` bytes each in `bytes`
abbrev pub first_records : ℕ → ℕ → List ℕ → List (List ℕ)
first_records size zero bytes = []
first_records size (suc n) bytes = take size bytes ∷ first_records size n (drop size bytes)

-- the records of `size` bytes in `bytes`; an incomplete record at the end is left out
unfoldable pub records : ℕ → List ℕ → List (List ℕ)
records size bytes = first_records size (length bytes / size) bytes

-- the fault of the record at `index` if it is bad, otherwise `later`
abbrev pub fault_or : ℕ → Judgement → Option FileFault → Option FileFault
fault_or index (Ok sightings) later = later
fault_or index (Err f) later = Some (f index)

-- the fault of the first bad record of a list; None if all are good. The records are numbered from `index`, and `last`
-- is the key before them
abbrev pub first_fault : Format → Option Key → ℕ → List (List ℕ) → Option FileFault
first_fault format last index [] = None
first_fault format last index (r ∷ rs) =
    fault_or index (judged format last r) (first_fault format (key_in format r) (index + 1) rs)

-- the sightings of a record, followed by `later`; none if the record is bad
abbrev pub sightings_then : Judgement → List (Key × Cell Value) → List (Key × Cell Value)
sightings_then (Ok sightings) later = sightings ++ later
sightings_then (Err f) later = []

-- the sightings of the good records before the first bad record, or of all records if none is bad. `last` is the key
-- before them
abbrev pub sightings_by : Format → Option Key → List (List ℕ) → List (Key × Cell Value)
sightings_by format last [] = []
sightings_by format last (r ∷ rs) = sightings_then (judged format last r) (sightings_by format (key_in format r) rs)

-- each record has the size of the format, and is good after the records before it. `last` is the key before them all
abbrev pub AreGoodRecords : Format → Option Key → List (List ℕ) → Type 0
AreGoodRecords format last [] = Unit {0}
AreGoodRecords format last (r ∷ rs) =
    (length r ≡ record_size format) × IsOk (judged format last r) × AreGoodRecords format (key_in format r) rs

-- the outcome of a file of this format that has `bytes` bytes and no bad record. It is `TooLong` if there are 2^40
-- bytes or more, and `Truncated` at the offset of a record that is incomplete; otherwise the file is accepted
unfoldable pub ending : Format → ℕ → Result (Unit {0}) FileFault
ending format bytes =
    let behind = bytes - head_size format in
    let size = record_size format in
    if nat_le (2 ^ 40) bytes then Err TooLong else
    (if behind % size == 0 then Ok tt else Err (Truncated (head_size format + size * (behind / size))))

-- the fault if there is one; otherwise `otherwise`
abbrev pub fault_first : Option FileFault → Result (Unit {0}) FileFault → Result (Unit {0}) FileFault
fault_first None otherwise = otherwise
fault_first (Some f) otherwise = Err f

-- the complete records that end within the first 2^40 bytes
abbrev pub records_in_reach : Format → List ℕ → List (List ℕ)
records_in_reach format bytes = records (record_size format) (drop (head_size format) (take (2 ^ 40) bytes))

-- the fault of the first bad record within the first 2^40 bytes; None if no record there is bad
abbrev pub fault_in : Format → List ℕ → Option FileFault
fault_in format bytes = first_fault format None 0 (records_in_reach format bytes)

-- the outcome of reading `bytes`, given the format in their head or the head's fault
abbrev pub outcome_as : Result Format FileFault → List ℕ → Result (Unit {0}) FileFault
outcome_as (Err fault) bytes = Err fault
outcome_as (Ok format) bytes = fault_first (fault_in format bytes) (ending format (length bytes))

-- the outcome of reading `bytes` as a file: accepted, or the first fault
unfoldable pub outcome : List ℕ → Result (Unit {0}) FileFault
outcome bytes = outcome_as (format_in bytes) bytes

-- the sightings that reading `bytes` keeps, given the format in their head or the head's fault
abbrev pub kept_as : Result Format FileFault → List ℕ → List (Key × Cell Value)
kept_as (Err fault) bytes = []
kept_as (Ok format) bytes = sightings_by format None (records_in_reach format bytes)

-- the sightings that reading `bytes` keeps: those of the good records before the first bad record, within 2^40 bytes.
-- None are kept if the head has a fault
unfoldable pub kept : List ℕ → List (Key × Cell Value)
kept bytes = kept_as (format_in bytes) bytes

-- the floor of a format; 1 if the head has a fault instead
abbrev pub floor_as : Result Format FileFault → ℕ
floor_as (Err fault) = 1
floor_as (Ok format) = floor_of format

-- the floor that reading `bytes` gives: the floor in their header. 1 if they have no header, or if their head has a
-- fault
unfoldable pub floor_in : List ℕ → ℕ
floor_in bytes = floor_as (format_in bytes)

-- the facts in `bytes`: the view of the sightings that reading them keeps, at their floor
abbrev pub facts_in : List ℕ → Facts
facts_in bytes = view_at (floor_in bytes) (kept bytes)
