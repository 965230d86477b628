-- The numbers that are marked, rising.
use Rattle.std.proofs.Common.{◌≡◌, ◌<◌, ◌-◌, ◌+◌, ℕ, suc, List, ◌∷◌, sym, ap, ◌∙◌, Bool, true, false, cond, arith, length, add-one}
use Rattle.std.specs.Prelude.{filter, slice_index_or}
use Rattle.lid_assign.specs.Lids.{Given, count_up, is_lid, top_of, end_of, rising_lids}
use Rattle.lid_assign.specs.LidMap.{AreLidMarks, marked_from}
use Rattle.lid_assign.proofs.Rising.{filter_same}

-- the numbers from one on begin with it
pub counted : (n end : ℕ) → n < end → count_up n (end - n) ≡ n ∷ count_up (n + 1) (end - (n + 1))
counted n end h =
    let more : end - n ≡ suc (end - (n + 1)) = omega arith in
    ap (count_up n) more ∙ ap (λ m. n ∷ count_up m (end - (n + 1))) (sym (add-one n))

module _ (marks : List Bool) (n : ℕ) (h : n < length marks) where
  -- a number with a mark is the first
  pub marked_more : slice_index_or marks n false ≡ true → marked_from marks n ≡ n ∷ marked_from marks (n + 1)
  marked_more e =
      let rest = marked_from marks (n + 1) in
      ap (λ ns. filter (λ m. slice_index_or marks m false) ns) (counted n (length marks) h) ∙ ap (λ t. cond t (n ∷ rest) rest) e

  -- one without is passed
  pub marked_past : slice_index_or marks n false ≡ false → marked_from marks n ≡ marked_from marks (n + 1)
  marked_past e =
      let rest = marked_from marks (n + 1) in
      ap (λ ns. filter (λ m. slice_index_or marks m false) ns) (counted n (length marks) h) ∙ ap (λ t. cond t (n ∷ rest) rest) e

-- where the marks are those of LIDs, these are the rising ones
pub marked_are : (given : Given) (marks : List Bool) → length marks ≡ end_of (top_of given) → AreLidMarks given.ports marks → marked_from marks 0
    ≡ rising_lids given
marked_are given marks len are =
    let end : length marks - 0 ≡ end_of (top_of given) = omega (arith, len) in
    ap (λ n. filter (λ m. slice_index_or marks m false) (count_up 0 n)) end
    ∙ filter_same (λ m. slice_index_or marks m false) (is_lid given.ports) (count_up 0 (end_of (top_of given))) (λ m h. are m)
