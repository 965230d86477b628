-- Lemmas on how the records of files are judged.
use Rattle.std.proofs.Common.{◌≡◌, ℕ, Bool, true, false, List, [], ◌∷◌, Option, None, Some, Result, Ok, Err, cond, subst}
use Rattle.fact_join.specs.declared.cell.Cell.{Cell}
use Rattle.reply_facts.specs.declared.key.Key.{Key}
use Rattle.reply_facts.specs.declared.value.Value.{Value}
use Rattle.reply_facts.specs.declared.report_fault.ReportFault.{ReportFault}
use Rattle.reply_facts.specs.Key.{is_above}
use Rattle.record_file.specs.declared.file_fault.FileFault.{FileFault}
use Rattle.record_file.specs.declared.file_fault.FileFault.TheVariants.{BadCell, CellOrder}
use Rattle.record_file.specs.declared.format.Format.{Format}
use Rattle.record_file.specs.declared.format.Format.TheVariants.{Reports, Cells}
use Rattle.record_file.specs.CellRecord.{cell_of}
use Rattle.record_file.specs.Laws.{IsBadPart}
use Rattle.record_file.specs.Reading.{Judgement, is_at_told, judged, of_cell, of_report}
use Rattle.record_file.specs.ReportRecord.{report_judged}

-- the fault of a judgement is one of a bad record
abbrev pub IsBadJudgement : Judgement → ℕ → Type 0
IsBadJudgement (Ok sightings) i = ⊥
IsBadJudgement (Err f) i = IsBadPart (f i)

bad_report : (v : Result (List (Key × Cell Value)) ReportFault) (f : ℕ → FileFault) (i : ℕ) → of_report v ≡ Err f → IsBadPart (f i)
bad_report (Ok sightings) f i h = absurd (cc)
bad_report (Err g) f i h = let P : Judgement → Type 0 = λ v. IsBadJudgement v i in subst P h tt

bad_order : (a b : Bool) (e : Key × Cell Value) (f : ℕ → FileFault) (i : ℕ) → cond a (cond b (Ok (e ∷ [])) (Err CellOrder)) (Err BadCell) ≡ Err f
    → IsBadPart (f i)
bad_order true true e f i h = absurd (cc)
bad_order true false e f i h = let P : Judgement → Type 0 = λ v. IsBadJudgement v i in subst P h tt
bad_order false b e f i h = let P : Judgement → Type 0 = λ v. IsBadJudgement v i in subst P h tt

bad_cell : (head_floor : Option ℕ) (last : Option Key) (o : Option (Key × Cell Value)) (f : ℕ → FileFault) (i : ℕ) → of_cell head_floor last o ≡ Err f
    → IsBadPart (f i)
bad_cell head_floor last None f i h = let P : Judgement → Type 0 = λ v. IsBadJudgement v i in subst P h tt
bad_cell head_floor last (Some e) f i h = bad_order (is_at_told head_floor e.1) (is_above last e.0) e f i h

pub judged-bad : (format : Format) (last : Option Key) (r : List ℕ) (f : ℕ → FileFault) (i : ℕ) → judged format last r ≡ Err f → IsBadPart (f i)
judged-bad Reports last r f i h = bad_report (report_judged r) f i h
judged-bad (Cells head_floor) last r f i h = bad_cell head_floor last (cell_of r) f i h
