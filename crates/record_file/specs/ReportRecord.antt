-- A report as 272 bytes: the generation, the context, a port, two zero bytes, a GUID and the reply's 256 bytes.
use Rattle.std.specs.Prelude.{ℕ, List, Option, None, Some, Result, Ok, Err, ◌==◌, ◌&&◌, ◌∷◌, ◌++◌, take, drop, slice_index, option_map, if◌then◌else◌}
use Rattle.std.specs.Int.{from_be_bytes, to_be_bytes, w32, w64}
use Rattle.fact_join.specs.declared.cell.Cell.{Cell}
use Rattle.reply_facts.specs.declared.key.Key.{Key}
use Rattle.reply_facts.specs.declared.value.Value.{Value}
use Rattle.reply_facts.specs.declared.report.Context.{Context}
use Rattle.reply_facts.specs.declared.report.Context.TheVariants.{Start, Via, About}
use Rattle.reply_facts.specs.declared.report.Report.{Report}
use Rattle.reply_facts.specs.declared.report_fault.ReportFault.{ReportFault}
use Rattle.reply_facts.specs.declared.report_fault.ReportFault.TheVariants as fault
use Rattle.reply_facts.specs.Report.{report_fault, sightings_of}

-- if `byte`, `port` and `guid` spell a context, this context; otherwise None
abbrev pub context_of : ℕ → ℕ → ℕ → Option Context
context_of byte port guid =
    if byte == 0 then (if (port == 0) && (guid == 0) then Some Start else None)
    else if byte == 1 then Some (Via guid port)
    else if (byte == 2) && (port == 0) then Some (About guid)
    else None

-- the byte for the kind of a context
abbrev pub context_byte : Context → ℕ
context_byte Start = 0
context_byte (Via guid port) = 1
context_byte (About guid) = 2

-- the port of a context; 0 if the context has no port
abbrev pub context_port : Context → ℕ
context_port Start = 0
context_port (Via guid port) = port
context_port (About guid) = 0

-- the GUID of a context; 0 if the context has no GUID
abbrev pub context_guid : Context → ℕ
context_guid Start = 0
context_guid (Via guid port) = guid
context_guid (About guid) = guid

-- the record of the report `r`
abbrev pub report_bytes : Report → List ℕ
report_bytes r =
    to_be_bytes w32 r.generation
    ++ (context_byte r.context ∷ context_port r.context ∷ 0 ∷ 0 ∷ (to_be_bytes w64 (context_guid r.context) ++ r.bytes))

-- the report that a record of 272 bytes spells. None if the zero bytes are not 0, or if the context byte, the port and
-- the GUID do not spell a context
unfoldable pub report_of : List ℕ → Option Report
report_of bytes =
    if (slice_index bytes 6 == 0) && (slice_index bytes 7 == 0) then
    option_map (λ context. record {
      generation = from_be_bytes w32 (take 4 bytes);
      context = context;
      bytes =
          drop 16 bytes;
    })
    (context_of (slice_index bytes 4) (slice_index bytes 5) (from_be_bytes w64 (take 8 (drop 8 bytes))))
    else None

-- `sightings` if there is no fault; otherwise the fault
abbrev pub unless_fault : Option ReportFault → List (Key × Cell Value) → Result (List (Key × Cell Value)) ReportFault
unless_fault None sightings = Ok sightings
unless_fault (Some f) sightings = Err f

-- the sightings of a report, or its fault; `Context` if no report is given
abbrev pub report_sightings : Option Report → Result (List (Key × Cell Value)) ReportFault
report_sightings None = Err fault.Context
report_sightings (Some r) = unless_fault (report_fault r) (sightings_of r)

-- the sightings of the report that `bytes` spell, or its fault; `Context` if they do not spell a report
unfoldable pub report_judged : List ℕ → Result (List (Key × Cell Value)) ReportFault
report_judged bytes = report_sightings (report_of bytes)
