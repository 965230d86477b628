-- A list walked with the index of each element.
use Rattle.std.proofs.Common.{◌≡◌, ◌<◌, ◌≤◌, ◌+◌, ℕ, List, [], ◌∷◌, ◌++◌, ap, ◌∙◌, arith, length, take, drop, get_or}
use Rattle.std.proofs.Math.ListN.{drop_of_length-le}
use Rattle.std.proofs.lemmas.List.{take_more, drop_more}
use Rattle.std.proofs.lemmas.List.FromFn.{length-enumerate_from, get_or-enumerate_from}
use Rattle.std.specs.List.{enumerate_from}

module _ {X : Type 0} (xs : List X) (i : ℕ) (d : X) where
  abbrev indices : List (ℕ × X)
  indices = enumerate_from 0 xs

  at_index : i < length xs → get_or indices i (0, d) ≡ (i, get_or xs i d)
  at_index h =
      let same : 0 + i ≡ i = omega arith in
      get_or-enumerate_from 0 xs i (0, d) h ∙ (λ j. (same j, get_or xs i d))

  -- one more was seen
  pub seen_more : i < length xs → take (i + 1) indices ≡ take i indices ++ (i, get_or xs i d) ∷ []
  seen_more h = take_more indices i (0, d) (omega (arith, h, length-enumerate_from 0 xs)) ∙ ap (λ x. take i indices ++ x ∷ []) (at_index h)

  -- the next one
  pub next_index : i < length xs → drop i indices ≡ (i, get_or xs i d) ∷ drop (i + 1) indices
  next_index h = drop_more indices i (0, d) (omega (arith, h, length-enumerate_from 0 xs)) ∙ ap (λ x. x ∷ drop (i + 1) indices) (at_index h)

  -- none is left
  pub none_left : length xs ≤ i → drop i indices ≡ []
  none_left h = drop_of_length-le indices (omega (arith, h, length-enumerate_from 0 xs))
