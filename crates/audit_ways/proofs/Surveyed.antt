-- The routes of packets, LID by LID.
use Rattle.std.proofs.Common.{◌≡◌, ◌<◌, ◌≤◌, ◌+◌, ◌*◌, ℕ, true, false, cond, List, [], ◌∷◌, ◌++◌, length, get_or, take, refl, sym, ap, ◌∙◌, subst}
use Rattle.std.specs.List.{flat_map, sum_by}
use Rattle.std.proofs.lemmas.List.{append-nil, take_all, take_more}
use Rattle.std.proofs.lemmas.List.Concat.{flat_map-append}
use Rattle.std.proofs.lemmas.List.Sums.{sum_by-append}
use Rattle.subnet_view.specs.Reading.{Cells, switches}
use Rattle.held_tables.specs.declared.held.HeldLid.{HeldLid}
use Rattle.held_tables.specs.Held.{HeldPlan}
use Rattle.held_tables.specs.Tables.{lines_of}
use Rattle.audit_ways.specs.declared.way_tally.WayTally.{WayTally}
use Rattle.audit_ways.specs.WayTally.{IsCounted, IsCountedMore}
use Rattle.audit_ways.specs.Ways.{Way, is_target, ways_for, ways_of, ways_to}
use Rattle.audit_ways.proofs.Counted.{counted_as}

-- those for the first lines
pub record AreSurveyed (cells : Cells) (held : HeldPlan) (lines : List HeldLid) (n : ℕ) (tally : WayTally) : Type 0 where
  pub counted : IsCounted (256 * length (switches cells)) (λ f. sum_by f (flat_map (ways_for cells held) (take n lines))) tally

module _ (cells : Cells) (held : HeldPlan) (lines : List HeldLid) where
  abbrev channels : ℕ
  channels = 256 * length (switches cells)

  abbrev first : ℕ → List Way
  first n = flat_map (ways_for cells held) (take n lines)

  pub none_surveyed : (count : ℕ) (tally : WayTally) → IsCounted count (λ _. 0) tally → count ≡ channels → AreSurveyed cells held lines 0 tally
  none_surveyed count tally h e = record {
    counted = subst (λ (k : ℕ). IsCounted k (λ f. sum_by f (first 0)) tally) e (counted_as count (λ _. 0) (λ f. sum_by f (first 0)) tally (λ f. refl) h);
  }

  lines_more : (n : ℕ) (line : HeldLid) → n < length lines → line ≡ get_or lines n line → first (n + 1) ≡ first n ++ ways_for cells held line
  lines_more n line h is =
      ap (flat_map (ways_for cells held)) (take_more lines n line h ∙ ap (λ x. take n lines ++ x ∷ []) (sym is))
      ∙ flat_map-append (ways_for cells held) (take n lines) (line ∷ []) ∙ ap (λ ps. first n ++ ps) (append-nil (ways_for cells held line))

  pub line_surveyed : (n : ℕ) (line : HeldLid) (tally new : WayTally) → AreSurveyed cells held lines n tally → n < length lines → line ≡ get_or lines n line → is_target cells line.port ≡ true
      → IsCountedMore channels tally (λ f. sum_by f (ways_to cells held line)) new → AreSurveyed cells held lines (n + 1) new
  line_surveyed n line tally new h less is there add = record {
    counted =
        let more = lines_more n line less is ∙ ap (λ t. first n ++ cond t (ways_to cells held line) []) there in
        counted_as channels (λ f. sum_by f (first n) + sum_by f (ways_to cells held line)) (λ f. sum_by f (first (n + 1))) new
        (λ f. sym (ap (sum_by f) more ∙ sum_by-append f (first n) (ways_to cells held line)))
        (add (λ f. sum_by f (first n)) h.counted);
  }

  pub line_passed : (n : ℕ) (line : HeldLid) (tally : WayTally) → AreSurveyed cells held lines n tally → n < length lines → line ≡ get_or lines n line → is_target cells line.port ≡ false
      → AreSurveyed cells held lines (n + 1) tally
  line_passed n line tally h less is there = record {
    counted =
        let more = lines_more n line less is ∙ ap (λ t. first n ++ cond t (ways_to cells held line) []) there ∙ append-nil (first n) in
        counted_as channels (λ f. sum_by f (first n)) (λ f. sum_by f (first (n + 1))) tally (λ f. sym (ap (sum_by f) more)) h.counted;
  }

  pub all_surveyed : (n : ℕ) (tally : WayTally) → AreSurveyed cells held lines n tally
      → lines ≡ lines_of held → length lines ≤ n → IsCounted channels (λ f. sum_by f (ways_of cells held)) tally
  all_surveyed n tally h are past =
      counted_as channels (λ f. sum_by f (first n)) (λ f. sum_by f (ways_of cells held)) tally
      (λ f. ap (λ ls. sum_by f (flat_map (ways_for cells held) ls)) (take_all n lines past ∙ are)) h.counted
