-- A function mapped over a list that is walked by an index, and then over the next item.
use Rattle.std.proofs.Common.{◌≡◌, ◌<◌, ◌+◌, ℕ, List, [], ◌∷◌, ◌++◌, ap, sym, ◌∙◌, drop, length, get_or}
use Rattle.std.proofs.lemmas.List.{append_assoc}
use Rattle.std.specs.Prelude.{Option, Some, None}
use Rattle.std.specs.List.{filter_map, cons_option}
use Rattle.lid_assign.proofs.Walked.{next_item}

module _ {X Y : Type 0} (h : X → Option Y) (xs : List X) (i : ℕ) (x : X) (found all : List Y)
    (inside : i < length xs) (at : x ≡ get_or xs i x) (so_far : found ++ filter_map h (drop i xs) ≡ all) where
  here : found ++ cons_option (h x) (filter_map h (drop (i + 1) xs)) ≡ all
  here = sym (ap (λ ys. found ++ filter_map h ys) (next_item xs i x inside at)) ∙ so_far

  -- the result for the next item is appended
  pub walked_some : (y : Y) → h x ≡ Some y → (found ++ y ∷ []) ++ filter_map h (drop (i + 1) xs) ≡ all
  walked_some y e =
      append_assoc found (y ∷ []) (filter_map h (drop (i + 1) xs)) ∙ sym (ap (λ o. found ++ cons_option o (filter_map h (drop (i + 1) xs))) e) ∙ here

  -- if there is no result, nothing is appended
  pub walked_none : h x ≡ None → found ++ filter_map h (drop (i + 1) xs) ≡ all
  walked_none e = sym (ap (λ o. found ++ cons_option o (filter_map h (drop (i + 1) xs))) e) ∙ here
