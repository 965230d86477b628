-- A function mapped over the numbers from 0 on, and then over the next number.
use Rattle.std.proofs.Common.{◌≡◌, ◌+◌, ℕ, List, [], ◌∷◌, ◌++◌, refl, ap, sym, ◌∙◌, arith}
use Rattle.std.proofs.lemmas.List.{append_assoc, append-nil}
use Rattle.std.proofs.lemmas.List.Elements.{filter_map-append}
use Rattle.std.proofs.lemmas.List.FromFn.{map-range_with_len_more}
use Rattle.std.specs.Prelude.{Option, Some, None, map}
use Rattle.std.specs.List.{filter_map, cons_option, range_with_len}

map_same : (ns : List ℕ) → map (λ n. n) ns ≡ ns
map_same [] = refl
map_same (n ∷ ns) = ap (λ ms. n ∷ ms) (map_same ns)

range_more : (n : ℕ) → range_with_len 0 (n + 1) ≡ range_with_len 0 n ++ n ∷ []
range_more n =
    sym (map_same (range_with_len 0 (n + 1))) ∙ map-range_with_len_more (λ k. k) 0 n n (omega arith) ∙ ap (λ ns. ns ++ n ∷ []) (map_same (range_with_len 0 n))

module _ {X : Type 0} (h : ℕ → Option X) (n : ℕ) (before found : List X) (so_far : found ≡ before ++ filter_map h (range_with_len 0 n)) where
  given_more : (o : Option X) → h n ≡ o → found ++ cons_option o [] ≡ before ++ filter_map h (range_with_len 0 (n + 1))
  given_more o e =
      let all = filter_map h (range_with_len 0 n) in
      let last : cons_option o [] ≡ filter_map h (n ∷ []) = sym (ap (λ p. cons_option p []) e) in
      ap (λ xs. xs ++ cons_option o []) so_far ∙ append_assoc before all (cons_option o [])
      ∙ ap (λ xs. before ++ (all ++ xs)) last
      ∙ ap (λ xs. before ++ xs) (sym (filter_map-append h (range_with_len 0 n) (n ∷ [])) ∙ ap (filter_map h) (sym (range_more n)))

  -- the result for the next number is appended
  pub given_some : (x : X) → h n ≡ Some x → found ++ x ∷ [] ≡ before ++ filter_map h (range_with_len 0 (n + 1))
  given_some x e = given_more (Some x) e

  -- if there is no result, nothing is appended
  pub given_none : h n ≡ None → found ≡ before ++ filter_map h (range_with_len 0 (n + 1))
  given_none e = sym (append-nil found) ∙ given_more None e
