-- A file is accepted exactly if it is a head with good records behind it.
use Rattle.std.proofs.Common.{◌≡◌, ℕ, zero, suc, ◌+◌, ◌-◌, ◌*◌, ◌/◌, ◌%◌, ◌<◌, ◌≤◌, ◌^◌, List, [], ◌∷◌, ◌++◌, Option, None, Result, Ok, Err}
use Rattle.std.proofs.Common.{IsOk, length, drop, refl, sym, ap, ◌∙◌, arith, append-nil, length-append, length-drop}
use Rattle.std.specs.List.{AllByRecursion, concat}
use Rattle.std.proofs.lemmas.List.{take_all}
use Rattle.std.proofs.Math.Nat.{div-add-mod}
use Rattle.reply_facts.specs.declared.key.Key.{Key}
use Rattle.reply_facts.specs.declared.report_fault.ReportFault.{ReportFault}
use Rattle.record_file.specs.declared.file_fault.FileFault.{FileFault}
use Rattle.record_file.specs.declared.format.Format.{Format}
use Rattle.record_file.specs.declared.format.Format.TheVariants.{Reports}
use Rattle.record_file.specs.Laws.{ReportFilesAreAccepted}
use Rattle.record_file.specs.ReportFile.{IsGoodReport}
use Rattle.record_file.specs.ReportRecord.{report_judged}
use Rattle.record_file.specs.Head.{IsFormat, format_in, head_bytes, head_size}
use Rattle.record_file.specs.Reading.{fault_in, fault_or, first_fault, first_records, of_report, outcome, record_size, records}
use Rattle.record_file.specs.Reading.{records_in_reach}
use Rattle.record_file.proofs.Beginnings.{first_records-whole, found, well_found}
use Rattle.record_file.proofs.Heads.{format_in-head, one_format, whole_drop, whole_of}
use Rattle.record_file.proofs.Records.{AreRecords, Sightings, bytes_of, ending-whole, file, length-concat, length-file, outcome-part}
use Rattle.record_file.proofs.Records.{size-positive}

length-first_records : (size n : ℕ) (x : List ℕ) → length (first_records size n x) ≡ n
length-first_records size zero x = refl
length-first_records size (suc n) x = ap suc (length-first_records size n (drop size x))

pub nothing : (x : List ℕ) → length x ≡ 0 → x ≡ []
nothing [] h = refl
nothing (b ∷ x) h = absurd (omega arith)

-- bytes of whole records are those records
records-all : (size : ℕ) (x : List ℕ) → length x % size ≡ 0 → AreRecords size (records size x) × (x ≡ concat (records size x))
unfolding records
records-all size x h =
    let n = length x / size in
    let split : size * (length x / size) + length x % size ≡ length x = div-add-mod (length x) size in
    let fits : size * (length x / size) ≤ length x = omega arith in
    let whole = first_records-whole size n x fits in
    let long : length x ≡ size * n + length whole.1.0 =
    ap length whole.1.1 ∙ length-append (concat (first_records size n x)) whole.1.0
    ∙ ap (λ k. k + length whole.1.0) (length-concat size (first_records size n x) whole.0 ∙ ap (λ k. size * k) (length-first_records size n x)) in
    let none : whole.1.0 ≡ [] = nothing whole.1.0 (omega arith) in
    (whole.0, whole.1.1 ∙ ap (λ l. concat (first_records size n x) ++ l) none ∙ append-nil (concat (first_records size n x)))

-- good records and nothing else
pub record IsFile (format : Format) (bytes : List ℕ) (rs : List (List ℕ)) : Type 0 where
  pub sound : IsFormat format
  pub whole : bytes ≡ head_bytes format ++ concat rs
  pub records : AreRecords (record_size format) rs
  pub good : first_fault format None 0 rs ≡ None
  pub short : length bytes < 2 ^ 40

-- what is accepted is a file of good records
pub accepted_is_file : (format : Format) (bytes : List ℕ) → format_in bytes ≡ Ok format → outcome bytes ≡ Ok tt
    → (records_in_reach format bytes ≡ records (record_size format) (drop (head_size format) bytes))
    × IsFile format bytes (records (record_size format) (drop (head_size format) bytes))
accepted_is_file format bytes known ok =
    let was = well_found bytes (outcome bytes) (found bytes) ok in
    let w = record_size format in
    let body = drop (head_size format) bytes in
    let one : was.0 ≡ format = one_format was.0 format (sym was.1 ∙ known) in
    let none : fault_in format bytes ≡ None = ap (λ f. fault_in f bytes) (sym one) ∙ was.2 in
    let size : length body ≡ length bytes - head_size format = length-drop (head_size format) bytes in
    let even : length body % w ≡ 0 = ap (λ n. n % w) size ∙ ap (λ f. (length bytes - head_size f) % record_size f) (sym one) ∙ was.4 in
    let all = records-all w body even in
    let reach : records_in_reach format bytes ≡ records w body =
    ap (λ l. records w (drop (head_size format) l)) (take_all (2 ^ 40) bytes (omega (arith, was.3))) in (
      reach,
      record {
        sound = (whole_of bytes format known).0;
        whole = whole_drop bytes format known ∙ ap (λ l. head_bytes format ++ l) all.1;
        records = all.0;
        good = ap (first_fault format None 0) (sym reach) ∙ none;
        short = was.3;
      },
    )

-- and a file of good records is accepted
pub file_is_accepted : (format : Format) (bytes : List ℕ) (rs : List (List ℕ)) → IsFile format bytes rs
    → (format_in bytes ≡ Ok format) × (outcome bytes ≡ Ok tt)
file_is_accepted format bytes rs is =
    let same : bytes ≡ file format rs [] = is.whole ∙ ap (λ l. head_bytes format ++ l) (sym (append-nil (concat rs))) in
    let size = length-file format rs [] is.records in
    let sized = ap length same in
    let short = is.short in
    let rest = 2 ^ 40 - bytes_of format (length rs) in (
      ap format_in is.whole ∙ format_in-head format (concat rs) is.sound,
      ap outcome same
          ∙ outcome-part format is.sound rs [] [] is.records (omega arith) is.good (take_all rest [] (omega arith)) (size-positive format)
          ∙ ending-whole format (length rs) (length (file format rs [])) (omega arith) (omega arith),
    )

-- reports ---------------------------------------------------------------------------

no_fault : (v : Result Sightings ReportFault) (i : ℕ) (later : Option FileFault) → fault_or i (of_report v) later ≡ None → IsOk v × (later ≡ None)
no_fault (Ok sightings) i later h = (refl, h)
no_fault (Err f) i later h = absurd (cc)

good_reports : (last : Option Key) (i : ℕ) (rs : List (List ℕ)) → AreRecords 272 rs → first_fault Reports last i rs ≡ None → AllByRecursion IsGoodReport rs
good_reports last i [] h none = tt
good_reports last i (r ∷ rs) h none =
    let first = no_fault (report_judged r) i (first_fault Reports None (i + 1) rs) none in ((h.0, first.0), good_reports None (i + 1) rs h.1 first.1)

ok_then : (v : Result Sightings ReportFault) (i : ℕ) (later : Option FileFault) → IsOk v → later ≡ None → fault_or i (of_report v) later ≡ None
ok_then (Ok sightings) i later h none = none
ok_then (Err f) i later h none = absurd (cc)

pub faultless : (last : Option Key) (i : ℕ) (rs : List (List ℕ)) → AllByRecursion IsGoodReport rs → AreRecords 272 rs × (first_fault Reports last i rs ≡ None)
faultless last i [] h = (tt, refl)
faultless last i (r ∷ rs) h =
    let later = faultless None (i + 1) rs h.1 in ((h.0.0, later.0), ok_then (report_judged r) i (first_fault Reports None (i + 1) rs) h.0.1 later.1)

pub accepted : ReportFilesAreAccepted
accepted bytes = (
  (λ ok.
      let file = (accepted_is_file Reports bytes ok.0 ok.1).1 in
      (_, record { whole = file.whole; each = good_reports None 0 _ file.records file.good; short = file.short })),
  (λ file_of.
      let good = faultless None 0 file_of.0 file_of.1.each in
      file_is_accepted Reports bytes file_of.0 (record { sound = refl; whole = file_of.1.whole; records = good.0; good = good.1; short = file_of.1.short })),
)
