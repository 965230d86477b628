-- The faults of a file that ends within a record, and of a file with a bad record.
use Rattle.std.proofs.Common.{◌≡◌, ◌+◌, ◌-◌, ◌^◌, [], ◌∷◌, ◌++◌, None, Some, length, sym, ap, ◌∙◌, arith}
use Rattle.std.proofs.Common.{append_assoc, append-nil}
use Rattle.std.specs.List.{concat}
use Rattle.std.proofs.lemmas.List.{take_all}
use Rattle.std.proofs.lemmas.List.Folds.{concat-append}
use Rattle.record_file.specs.Laws.{FirstBadRecordIsTold, TruncationIsTold}
use Rattle.record_file.specs.Reading.{fault_or, first_fault, outcome, record_size}
use Rattle.record_file.specs.Head.{head_bytes}
use Rattle.record_file.proofs.Records.{AreRecords-more, bytes-more, good_records}
use Rattle.record_file.proofs.Records.{bytes_of, ending-part, first_fault-good, length-file, outcome-bad, outcome-part}

pub truncation_is_told : TruncationIsTold
truncation_is_told format rs part sound are_good some short fits =
    let g = good_records format None 0 rs are_good in
    let size = length-file format rs part g.0 in
    outcome-part format sound rs part part g.0 (omega arith) g.1 (take_all (2 ^ 40 - bytes_of format (length rs)) part (omega arith)) short
    ∙ ending-part format (length rs) (length part) (length (head_bytes format ++ (concat rs ++ part))) (omega arith) some short fits

pub first_bad_record_is_told : FirstBadRecordIsTold
first_bad_record_is_told format rs r rest f sound are_good whole bad fits =
    let g = good_records format None 0 rs are_good in
    let size = length-file format rs r g.0 in
    let more = bytes-more format rs r in
    let found : first_fault format None 0 (rs ++ r ∷ []) ≡ Some (f (length rs)) = first_fault-good format None 0 rs (r ∷ []) g.1
    ∙ ap (λ v. fault_or (0 + length rs) v None) bad ∙ ap (λ n. Some (f n)) (omega arith) in
    let joined : concat (rs ++ r ∷ []) ++ rest ≡ concat rs ++ (r ++ rest) =
    ap (λ l. l ++ rest) (concat-append rs (r ∷ []) ∙ ap (λ l. concat rs ++ l) (append-nil r)) ∙ append_assoc (concat rs) r rest in
    ap (λ l. outcome (head_bytes format ++ l)) (sym joined)
    ∙ outcome-bad format sound (rs ++ r ∷ []) rest (f (length rs)) (AreRecords-more (record_size format) rs r g.0 whole) (omega arith) found
