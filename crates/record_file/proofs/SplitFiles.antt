-- Files that are split between their records.
use Rattle.std.proofs.Common.{◌≡◌, ℕ, ◌-◌, ◌^◌, ◌<◌, List, [], ◌∷◌, ◌++◌, None, Some, Ok, refl, sym, ap, ◌∙◌, subst, arith, length, length-append}
use Rattle.std.proofs.Common.{take, append-nil}
use Rattle.std.specs.Prelude.{Option}
use Rattle.std.specs.List.{AllByRecursion, concat, flat_map}
use Rattle.std.proofs.lemmas.List.Concat.{flat_map-append}
use Rattle.std.proofs.lemmas.List.Folds.{concat-append}
use Rattle.std.proofs.lemmas.List.{take_all}
use Rattle.reply_facts.specs.declared.key.Key.{Key}
use Rattle.fact_store.specs.View.{Facts, cells_of}
use Rattle.fact_store.proofs.Entries.{cells_in_order}
use Rattle.record_file.specs.declared.format.Format.TheVariants.{Cells, Reports}
use Rattle.record_file.specs.Laws.{AreParts}
use Rattle.record_file.specs.ReportFile.{IsGoodReport, IsReportFile, report_file}
use Rattle.record_file.specs.Head.{IsFormat, floor_of, head_bytes}
use Rattle.record_file.specs.Reading.{floor_in, kept, last_key, outcome, records, sightings_by}
use Rattle.record_file.specs.CellRecord.{record_bytes}
use Rattle.record_file.specs.StoreFile.{cells_file}
use Rattle.record_file.specs.StoreLaws.{IsStoreFile}
use Rattle.record_file.proofs.Accepted.{accepted, faultless}
use Rattle.record_file.proofs.StoreFiles.{AllAtTold, AllSightings, Rise, cells_at, facts_with, in_range_sightings, read_back, sorted_rise, store_files_are_accepted}
use Rattle.record_file.proofs.Beginnings.{floor-some}
use Rattle.record_file.proofs.Records.{Sightings, bytes_of, file, kept-file, length-file, records-short, sightings_by-good}

kept-whole : (bytes : List ℕ) (rs : List (List ℕ)) → IsReportFile bytes rs → kept bytes ≡ sightings_by Reports None rs
kept-whole bytes rs is =
    let good = faultless None 0 rs is.each in
    let same : bytes ≡ file Reports rs [] = is.whole ∙ ap (λ l. head_bytes Reports ++ l) (sym (append-nil (concat rs))) in
    let size = length-file Reports rs [] good.0 in
    let sized = ap length same in
    let short = is.short in
    let rest = 2 ^ 40 - bytes_of Reports (length rs) in
    let none : records 272 (take rest []) ≡ [] = ap (records 272) (take_all rest [] (omega arith)) ∙ records-short 272 [] (omega arith) in
    ap kept same ∙ kept-file Reports refl rs [] good.0 (omega arith) ∙ ap (λ l. sightings_by Reports None (rs ++ l)) none
    ∙ ap (sightings_by Reports None) (append-nil rs)

-- the records of a report file stand in no order
no_key : (rs : List (List ℕ)) → last_key Reports None rs ≡ None
no_key [] = refl
no_key (r ∷ rs) = no_key rs

kept-split : (whole front back : List ℕ) (first second : List (List ℕ)) → IsReportFile whole (first ++ second) → IsReportFile front first
    → IsReportFile back second → kept whole ≡ kept front ++ kept back
kept-split whole front back first second w f b =
    kept-whole whole (first ++ second) w
    ∙ sightings_by-good Reports None 0 first second (faultless None 0 first f.each).1
    ∙ ap (λ k. sightings_by Reports None first ++ sightings_by Reports k second) (no_key first)
    ∙ ap (λ x. x ++ sightings_by Reports None second) (sym (kept-whole front first f))
    ∙ ap (λ x. kept front ++ x) (sym (kept-whole back second b))

all_front : (P : List ℕ → Type 0) (first second : List (List ℕ)) → AllByRecursion P (first ++ second) → AllByRecursion P first
all_front P [] second h = tt
all_front P (r ∷ first) second h = (h.0, all_front P first second h.1)

all_back : (P : List ℕ → Type 0) (first second : List (List ℕ)) → AllByRecursion P (first ++ second) → AllByRecursion P second
all_back P [] second h = h
all_back P (r ∷ first) second h = all_back P first second h.1

-- a part of a file, with the same beginning, is no longer than the whole
shorter : (begin front back : List ℕ) → length (begin ++ (front ++ back)) < 2 ^ 40 → (length (begin ++ front) < 2 ^ 40) × (length (begin ++ back) < 2 ^ 40)
shorter begin front back h =
    let whole = length-append begin (front ++ back) in let both = length-append front back in
    (omega (arith, length-append begin front), omega (arith, length-append begin back))

-- a report file that is split between its records: the parts are accepted, and keep the same
pub split_reports : (whole front back : List ℕ) (first second : List (List ℕ)) → IsReportFile whole (first ++ second) → front ≡ report_file first
    → back ≡ report_file second → AreParts whole front back
split_reports whole front back first second w f b =
    let joined : whole ≡ head_bytes Reports ++ (concat first ++ concat second) = w.whole ∙ ap (λ l. head_bytes Reports ++ l) (concat-append first second) in
    let sized = ap length joined in let long = w.short in
    let short = shorter (head_bytes Reports) (concat first) (concat second) (omega arith) in
    let front_sized = ap length f in let back_sized = ap length b in
    let is_front : IsReportFile front first = record { whole = f; each = all_front IsGoodReport first second w.each; short = let s = short.0 in omega arith } in
    let is_back : IsReportFile back second = record { whole = b; each = all_back IsGoodReport first second w.each; short = let s = short.1 in omega arith } in
    let front_ok = (accepted front).1 (first, is_front) in
    let back_ok = (accepted back).1 (second, is_back) in
    let floor = sym (floor-some Reports whole ((accepted whole).1 (first ++ second, w)).0) in
    record {
      front_accepted = front_ok.1;
      back_accepted = back_ok.1;
      together = kept-split whole front back first second w is_front is_back;
      front_floor = floor-some Reports front front_ok.0 ∙ floor;
      back_floor = floor-some Reports back back_ok.0 ∙ floor;
    }

-- the same of a store file -----------------------------------------------------------------

rise_front : (last : Option Key) (first second : Sightings) → Rise last (first ++ second) → Rise last first
rise_front last [] second h = tt
rise_front last (e ∷ first) second h = (h.0, rise_front (Some e.0) first second h.1)

rise_back : (last : Option Key) (first second : Sightings) → Rise last (first ++ second) → Rise None second
rise_back last [] [] h = tt
rise_back last [] (e ∷ second) h = (refl, h.1)
rise_back last (x ∷ first) second h = rise_back (Some x.0) first second h.1

sightings_front : (first second : Sightings) → AllSightings (first ++ second) → AllSightings first
sightings_front [] second h = tt
sightings_front (e ∷ first) second h = (h.0, sightings_front first second h.1)

sightings_back : (first second : Sightings) → AllSightings (first ++ second) → AllSightings second
sightings_back [] second h = h
sightings_back (e ∷ first) second h = sightings_back first second h.1

above_front : (head_floor : Option ℕ) (first second : Sightings) → AllAtTold head_floor (first ++ second) → AllAtTold head_floor first
above_front head_floor [] second h = tt
above_front head_floor (e ∷ first) second h = (h.0, above_front head_floor first second h.1)

above_back : (head_floor : Option ℕ) (first second : Sightings) → AllAtTold head_floor (first ++ second) → AllAtTold head_floor second
above_back head_floor [] second h = h
above_back head_floor (e ∷ first) second h = above_back head_floor first second h.1

-- a file of some of the cells, with the same floor
record IsPart (head_floor : Option ℕ) (part : List ℕ) (es : Sightings) : Type 0 where
  accepted : outcome part ≡ Ok tt
  cells : kept part ≡ es
  floor : floor_in part ≡ floor_of (Cells head_floor)

part_of_store : (head_floor : Option ℕ) (part : List ℕ) (es : Sightings) → IsFormat (Cells head_floor) → Rise None es → AllSightings es
    → AllAtTold head_floor es
    → part ≡ cells_file head_floor es → length part < 2 ^ 40 → IsPart head_floor part es
part_of_store head_floor part es sound rise all above is short =
    let f = facts_with head_floor es sound rise all above in
    let file : IsStoreFile head_floor part f.facts =
    record { whole = is ∙ ap (cells_file head_floor) (sym f.cells); sound = sound; floor = f.floor; in_range = f.in_range; short = short } in
    let ok = (store_files_are_accepted head_floor part).1 (f.facts, file) in
    record { accepted = ok.1; cells = (read_back head_floor part f.facts file).cells ∙ f.cells; floor = floor-some (Cells head_floor) part ok.0 }

pub split_store : (head_floor : Option ℕ) (whole front back : List ℕ) (facts : Facts) (first second : Sightings) → IsStoreFile head_floor whole facts
    → cells_of facts ≡ first ++ second → front ≡ cells_file head_floor first → back ≡ cells_file head_floor second → AreParts whole front back
split_store head_floor whole front back facts first second w split f b =
    let rise : Rise None (first ++ second) = subst (λ (es : Sightings). Rise None es) split (sorted_rise (cells_of facts) (cells_in_order facts)) in
    let all : AllSightings (first ++ second) = subst (λ (es : Sightings). AllSightings es) split (in_range_sightings facts w.in_range) in
    let above : AllAtTold head_floor (first ++ second) = subst (λ (es : Sightings). AllAtTold head_floor es) split (cells_at head_floor facts w.floor) in
    let joined : whole ≡ head_bytes (Cells head_floor) ++ (flat_map record_bytes first ++ flat_map record_bytes second) =
    w.whole ∙ ap (cells_file head_floor) split
    ∙ ap (λ l. head_bytes (Cells head_floor) ++ l) (flat_map-append record_bytes first second) in
    let sized = ap length joined in let long = w.short in
    let short = shorter (head_bytes (Cells head_floor)) (flat_map record_bytes first) (flat_map record_bytes second) (omega arith) in
    let front_sized = ap length f in let back_sized = ap length b in
    let is_front = part_of_store head_floor front first w.sound (rise_front None first second rise) (sightings_front first second all)
    (above_front head_floor first second above) f (let s = short.0 in omega arith) in
    let is_back = part_of_store head_floor back second w.sound (rise_back None first second rise) (sightings_back first second all)
    (above_back head_floor first second above) b (let s = short.1 in omega arith) in
    let floor = sym (floor-some (Cells head_floor) whole ((store_files_are_accepted head_floor whole).1 (facts, w)).0) in
    record {
      front_accepted = is_front.accepted;
      back_accepted = is_back.accepted;
      together = (read_back head_floor whole facts w).cells ∙ split ∙ ap (λ x. x ++ second) (sym is_front.cells)
          ∙ ap (λ x. kept front ++ x) (sym is_back.cells);
      front_floor = is_front.floor ∙ floor;
      back_floor = is_back.floor ∙ floor;
    }
