-- A walk that takes out the cells below a floor.
use Rattle.std.proofs.Common.{◌≡◌, ◌+◌, ◌≤◌, ℕ, List, [], ◌∷◌, ◌++◌, length, get_or, set, take, drop, zero, suc, refl, sym, ap, ◌∙◌, subst, arith, true, false, cond}
use Rattle.std.proofs.lemmas.Grind.{drop_more_same}
use Rattle.std.proofs.lemmas.List.{append-nil, drop-set-lt, length-set, take_all, take_more, take_more_set}
use Rattle.std.proofs.lemmas.List.Elements.{filter-append}
use Rattle.std.proofs.lemmas.Option.{slice_get_within}
use Rattle.std.specs.Prelude.{Some, slice_get}
use Rattle.fact_join.specs.declared.cell.Cell.{Cell}
use Rattle.reply_facts.specs.declared.key.Key.{Key}
use Rattle.reply_facts.specs.declared.value.Value.{Value}
use Rattle.fact_store.specs.Floor.{is_kept, kept}
use Rattle.smp_bytes.proofs.Ports.{drop_at}

-- of the first cells those that are kept stand in front, and the others are as they were
pub record IsDropping (floor : ℕ) (was cells : List (Key × Cell Value)) (i left : ℕ) : Type 0 where
  pub fewer : left ≤ i
  pub long : length cells ≡ length was
  pub done : take left cells ≡ kept floor (take i was)
  pub rest : drop i cells ≡ drop i was

-- the same, of cells and an index that are these
pub dropping_to : (floor : ℕ) (was cells cells' : List (Key × Cell Value)) (i left left' : ℕ) → cells' ≡ cells → left' ≡ left
    → IsDropping floor was cells i left → IsDropping floor was cells' i left'
dropping_to floor was cells cells' i left left' e el d =
    subst (λ (s : List (Key × Cell Value)). IsDropping floor was s i left') (sym e) (subst (λ (n : ℕ). IsDropping floor was cells i n) (sym el) d)

module _ (floor : ℕ) (was cells : List (Key × Cell Value)) (i left : ℕ) (d : IsDropping floor was cells i left) (x : Key × Cell Value) (at : slice_get cells i
    ≡ Some x) where
  -- it is where it was
  within : i + 1 ≤ length cells
  within = omega (arith, slice_get_within cells i x at)

  was_there : drop i was ≡ x ∷ drop (i + 1) cells
  was_there = sym d.rest ∙ drop_at i cells x at

  one_more : take (i + 1) was ≡ take i was ++ x ∷ []
  one_more = take_more was i x (omega (arith, within, d.long)) ∙ ap (λ (y : Key × Cell Value). take i was ++ y ∷ []) (there was i was_there)
    where
      there : (s : List (Key × Cell Value)) (n : ℕ) → drop n s ≡ x ∷ drop (i + 1) cells → get_or s n x ≡ x
      there [] zero e = absurd (cc)
      there [] (suc n) e = refl
      there (y ∷ s) zero e = cc
      there (y ∷ s) (suc n) e = there s n e

  -- what is kept of those so far and this one
  kept_more : kept floor (take (i + 1) was) ≡ kept floor (take i was) ++ cond (is_kept floor x.1) (x ∷ []) []
  kept_more = ap (kept floor) one_more ∙ filter-append (λ s. is_kept floor s.1) (take i was) (x ∷ [])

  -- one that is kept goes behind those that were
  pub dropping_kept : is_kept floor x.1 ≡ true → IsDropping floor was (set cells left x) (i + 1) (left + 1)
  dropping_kept k =
      record {
        fewer = omega (arith, d.fewer);
        long = length-set cells left x ∙ d.long;
        done =
            take_more_set cells left x (omega (arith, d.fewer, within)) ∙ ap (λ (s : List (Key × Cell Value)). s ++ x ∷ []) d.done
            ∙ ap (λ t. kept floor (take i was) ++ cond t (x ∷ []) []) (sym k) ∙ sym kept_more;
        rest = drop-set-lt (i + 1) cells left x (omega (arith, d.fewer)) ∙ drop_more_same cells was i d.rest;
      }

  -- one that is not is left behind
  pub dropping_left : is_kept floor x.1 ≡ false → IsDropping floor was cells (i + 1) left
  dropping_left k =
      record {
        fewer = omega (arith, d.fewer);
        long = d.long;
        done = d.done ∙ sym (append-nil (kept floor (take i was))) ∙ ap (λ t. kept floor (take i was) ++ cond t (x ∷ []) []) (sym k) ∙ sym kept_more;
        rest = drop_more_same cells was i d.rest;
      }

-- after the last step
pub all_dropped : (floor : ℕ) (was cells : List (Key × Cell Value)) (i left : ℕ) → IsDropping floor was cells i left → length was ≤ i → take left cells
    ≡ kept floor was
all_dropped floor was cells i left d h = d.done ∙ ap (kept floor) (take_all i was h)
