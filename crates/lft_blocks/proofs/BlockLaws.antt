-- What stands at an index of a list that is made from its indices.
use Rattle.std.proofs.Common.{◌≡◌, ◌<◌, ◌+◌, ◌*◌, ℕ, sym, ap, ◌∙◌, arith, map}
use Rattle.std.proofs.lemmas.List.FromFn.{length-map-range_with_len, get_or-map-range_with_len}
use Rattle.std.proofs.lemmas.Option.{slice_get_within, slice_get-get_or}
use Rattle.std.specs.Prelude.{Some, slice_get}
use Rattle.std.specs.List.{range_with_len}
use Rattle.lft_blocks.specs.Entries.{entry, block}
use Rattle.lft_blocks.specs.PlanLaws.{BlocksHoldEntries}

module _ {X : Type 0} (f : ℕ → X) (first n : ℕ) where
  -- at an index below the number of them
  pub made_at : (i : ℕ) → i < n → slice_get (map f (range_with_len first n)) i ≡ Some (f (first + i))
  made_at i h =
      let len = length-map-range_with_len f first n in
      slice_get-get_or (map f (range_with_len first n)) i (f 0) (omega (arith, len))
      ∙ ap (λ x. Some x) (get_or-map-range_with_len f first n i (first + i) (f 0) h (omega arith))

  -- what stands there was made from the index
  pub made_from : (i : ℕ) (x : X) → slice_get (map f (range_with_len first n)) i ≡ Some x → x ≡ f (first + i)
  made_from i x e =
      let h : i < n = omega (arith, slice_get_within (map f (range_with_len first n)) i x e, length-map-range_with_len f first n) in
      let k : Some x ≡ Some (f (first + i)) = sym e ∙ made_at i h in cc

-- block b has the entry for the LID 64 b + i at the index i
pub blocks_hold_entries : BlocksHoldEntries
blocks_hold_entries attachments next count s b i these e h =
    let at : 0 + b ≡ b = omega arith in
    let index : 0 + i ≡ i = omega arith in
    ap (λ entries. slice_get entries i) (made_from (block attachments next s) 0 count b these e ∙ ap (block attachments next s) at)
    ∙ made_at (λ j. entry attachments next s (64 * b + j)) 0 64 i h
    ∙ ap (λ j. Some (entry attachments next s (64 * b + j))) index
