-- The attachments of LIDs, LID by LID.
use Rattle.std.proofs.Common.{◌≡◌, ◌+◌, ◌*◌, ◌<◌, ◌≤◌, ◌/◌, ℕ, suc, List, ◌∷◌, [], ◌++◌, refl, sym, ap, ◌∙◌, subst, inl, inr, arith, length}
use Rattle.std.proofs.lemmas.Bool.{cases_lt}
use Rattle.std.proofs.lemmas.List.{get_or_past, get_or_append_left, length_push}
use Rattle.std.proofs.Math.Seq.{get_or-append_seam}
use Rattle.std.specs.Prelude.{Option, None, Some, option_and_then, slice_index_or}
use Rattle.subnet_view.specs.Reading.{Cells}
use Rattle.lid_assign.specs.Lids.{Given, owner_of, top_of}
use Rattle.lid_assign.proofs.Owners.{given-from_owner}
use Rattle.lid_assign.proofs.Tops.{at_most_top}
use Rattle.lft_blocks.specs.declared.attachment.Attachment.{Attachment}
use Rattle.subnet_view.specs.Wires.{attachment_of}
use Rattle.lft_blocks.specs.Entries.{attachment_of_lid, block_count}
use Rattle.lft_blocks.specs.Attachment.{IsIndexed, AreIndexed}

-- no LID behind the last block has an owner
owner_past : (given : Given) (lid : ℕ) → 64 * block_count (top_of given) ≤ lid → owner_of given lid ≡ None
owner_past given lid h =
    elim (owner_of given lid) as (λ o. owner_of given lid ≡ o → o ≡ None) [
      | None ↦ λ e. refl
      | Some port ↦ λ e.
          let its = given-from_owner given port lid e in
          let t = at_most_top given port its.0 lid its.1 its.2 in
          let count : block_count (top_of given) ≡ suc (t.0 / 64) = ap block_count t.1 in
          absurd (omega (arith, count, t.2))
    ] refl

-- each LID below the bound has its attachment
abbrev pub AreIndexedBelow : List ℕ → (ℕ → Option (ℕ × ℕ)) → ℕ → List (Option Attachment) → Type 0
AreIndexedBelow guids attachments n indexed = (length indexed ≡ n) × ((k : ℕ) → k < n → IsIndexed guids (attachments k) (slice_index_or indexed k None))

-- one more
pub indexed_more : (guids : List ℕ) (attachments : ℕ → Option (ℕ × ℕ)) (n : ℕ) (indexed : List (Option Attachment)) (attachment : Option Attachment)
    → AreIndexedBelow guids attachments n indexed → IsIndexed guids (attachments n) attachment
    → AreIndexedBelow guids attachments (n + 1) (indexed ++ attachment ∷ [])
indexed_more guids attachments n indexed attachment below next =
    let Is : ℕ → Option Attachment → Type 0 = λ k h. IsIndexed guids (attachments k) h in (
      length_push indexed attachment ∙ ap (λ m. m + 1) below.0,
      λ k h. (elim (cases_lt k n) [
        | inl l ↦ subst (Is k) (sym (get_or_append_left indexed (attachment ∷ []) None k (omega (arith, below.0)))) (below.1 k l)
        | inr m ↦
            let last : n ≡ k = omega arith in
            let at : slice_index_or (indexed ++ attachment ∷ []) k None ≡ attachment =
            ap (λ j. slice_index_or (indexed ++ attachment ∷ []) j None) (sym last ∙ sym below.0) ∙ get_or-append_seam indexed attachment [] None in
            subst (Is k) (sym at) (subst (λ (j : ℕ). Is j attachment) last next)
      ]),
    )

-- and all
pub indexed_all : (cells : Cells) (guids : List ℕ) (given : Given) (count : ℕ) (indexed : List (Option Attachment)) → count ≡ block_count (top_of given)
    → AreIndexedBelow guids (attachment_of_lid cells given) (64 * count) indexed → AreIndexed guids (attachment_of_lid cells given) indexed
indexed_all cells guids given count indexed is below lid =
    elim (cases_lt lid (64 * count)) [
      | inl l ↦ below.1 lid l
      | inr m ↦
          let none : attachment_of_lid cells given lid ≡ None = ap (option_and_then (attachment_of cells)) (owner_past given lid (omega (arith, is))) in
          let past = get_or_past indexed lid None (omega (arith, below.0)) in
          subst (λ (x : Option (ℕ × ℕ) × Option Attachment). IsIndexed guids x.0 x.1) (λ i. (sym none i, sym past i)) (record { same = refl; within = tt })
    ]
