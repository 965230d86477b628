-- Why a report is not added to a store.
use Rattle.std.specs.Prelude.{Bool, true, false, Option, option_map}
use Rattle.reply_facts.specs.declared.report.Report.{Report}
use Rattle.fact_store.specs.declared.ingest.IngestFault.{IngestFault}
use Rattle.fact_store.specs.declared.ingest.IngestFault.TheVariants as refuses
use Rattle.reply_facts.specs.Report.{report_fault}

-- the first fault of `report`, as a reason not to add the report; None if the report has no fault
abbrev pub ingest_fault : Report → Option IngestFault
ingest_fault report = option_map refuses.Report (report_fault report)

-- whether a report was not added for lack of memory
abbrev pub is_memory : IngestFault → Bool
is_memory refuses.Memory = true
is_memory _ = false
