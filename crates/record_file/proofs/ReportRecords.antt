-- Lemmas on the spelling of a report.
use Rattle.std.proofs.Common.{◌≡◌, ℕ, List, Option, None, Some, Ok, Err, take, drop, slice_index, refl, sym, ap, ◌∙◌}
use Rattle.std.specs.Int.{from_be_bytes, w32, w64}
use Rattle.std.specs.Option.{option_map}
use Rattle.reply_facts.specs.declared.report.Context.{Context}
use Rattle.reply_facts.specs.declared.report.Report.{Report}
use Rattle.reply_facts.specs.declared.key.Key.{Key}
use Rattle.fact_store.specs.Merge.{merge}
use Rattle.fact_store.specs.View.{Facts, view}
use Rattle.record_file.specs.Absorbs.{AbsorbsJudged}
use Rattle.record_file.specs.declared.file_fault.FileFault.TheVariants.{BadReport, Memory}
use Rattle.record_file.specs.declared.format.Format.TheVariants.{Reports}
use Rattle.record_file.specs.Reading.{judged}
use Rattle.reply_facts.specs.declared.report_fault.ReportFault.{ReportFault}
use Rattle.reply_facts.specs.declared.report_fault.ReportFault.TheVariants.{Context as NoContext}
use Rattle.fact_store.specs.declared.ingest.IngestFault.{IngestFault}
use Rattle.fact_store.specs.declared.ingest.IngestFault.TheVariants as refuses
use Rattle.fact_store.specs.Ingest.{ingest_fault}
use Rattle.reply_facts.specs.Report.{report_fault, sightings_of}
use Rattle.record_file.specs.ReportRecord.{context_of, report_judged, report_of, report_sightings, unless_fault}

pub report_of-spelled : (bytes : List ℕ) (generation : ℕ) (context : Context) (reply : List ℕ)
    → slice_index bytes 6 ≡ 0 → slice_index bytes 7 ≡ 0
    → generation ≡ from_be_bytes w32 (take 4 bytes)
    → context_of (slice_index bytes 4) (slice_index bytes 5) (from_be_bytes w64 (take 8 (drop 8 bytes))) ≡ Some context
    → reply ≡ drop 16 bytes
    → Some (record { generation = generation; context = context; bytes = reply }) ≡ report_of bytes
unfolding report_of
report_of-spelled bytes generation context reply sixth seventh first told rest = rw (sixth, seventh, told, first, rest) refl

judged-none : (bytes : List ℕ) → None ≡ report_of bytes → report_judged bytes ≡ Err NoContext
unfolding report_judged
judged-none bytes h = ap report_sightings (sym h)

judged-told : (bytes : List ℕ) (r : Report) → Some r ≡ report_of bytes → report_fault r ≡ None → report_judged bytes ≡ Ok (sightings_of r)
unfolding report_judged
judged-told bytes r h none = ap report_sightings (sym h) ∙ ap (λ o. unless_fault o (sightings_of r)) none

judged-fault : (bytes : List ℕ) (r : Report) (f : ReportFault) → Some r ≡ report_of bytes → report_fault r ≡ Some f → report_judged bytes ≡ Err f
unfolding report_judged
judged-fault bytes r f h some = ap report_sightings (sym h) ∙ ap (λ o. unless_fault o (sightings_of r)) some

-- of a store's refusal the report's fault
abbrev reported : Option IngestFault → Option ReportFault
reported None = None
reported (Some (refuses.Report fault)) = Some fault
reported (Some refuses.Memory) = None

fault_reported : (r : Report) → report_fault r ≡ reported (ingest_fault r)
fault_reported r = by_fault (report_fault r)
  where
    by_fault : (o : Option ReportFault) → o ≡ reported (option_map refuses.Report o)
    by_fault None = refl
    by_fault (Some fault) = refl

-- what becomes of a record that spells no report, of one that is refused, and of a good one
pub absorbs-none : (bytes : List ℕ) (last : Option Key) (index : ℕ) (store : Facts) → None ≡ report_of bytes
    → AbsorbsJudged {K = Unit {0}} (judged Reports last bytes) index (Err (BadReport index NoContext)) store store
absorbs-none bytes last index store h = rw (judged-none bytes h) (refl, refl)

pub absorbs-fault : (bytes : List ℕ) (last : Option Key) (index : ℕ) (r : Report) (f : ReportFault) (old new : Facts) → Some r ≡ report_of bytes
    → ingest_fault r ≡ Some (refuses.Report f) → new ≡ old
    → AbsorbsJudged {K = Unit {0}} (judged Reports last bytes) index (Err (BadReport index f)) old new
absorbs-fault bytes last index r f old new h some same = rw (judged-fault bytes r f h (fault_reported r ∙ ap reported some)) (refl, same)

pub absorbs-told : (bytes : List ℕ) (last : Option Key) (index : ℕ) (r : Report) (old new : Facts) → Some r ≡ report_of bytes → ingest_fault r ≡ None
    → new ≡ merge old (view (sightings_of r)) → AbsorbsJudged {K = Unit {0}} (judged Reports last bytes) index (Ok tt) old new
absorbs-told bytes last index r old new h none merged = rw (judged-told bytes r h (fault_reported r ∙ ap reported none)) merged

-- and of a good one for which there is no memory
pub absorbs-memory : (bytes : List ℕ) (last : Option Key) (index : ℕ) (r : Report) (old new : Facts) → Some r ≡ report_of bytes → ingest_fault r ≡ None
    → new ≡ old → AbsorbsJudged {K = Unit {0}} (judged Reports last bytes) index (Err Memory) old new
absorbs-memory bytes last index r old new h none same = rw (judged-told bytes r h (fault_reported r ∙ ap reported none)) (refl, same)
