-- The elements of a list that is put together from other lists.
use Rattle.std.proofs.Common.{ℕ, ◌+◌, ◌<◌, List, [], ◌∷◌, sym, ◌∙◌, subst, arith, inl, inr, map, ◌≡◌}
use Rattle.std.specs.Prelude.{Contains}
use Rattle.std.specs.List.{flat_map, range_with_len}
use Rattle.std.proofs.lemmas.List.Elements.{Contains-append_cases, Contains-append_left, Contains-append_right}
use Rattle.std.proofs.lemmas.List.FromFn.{length-range_with_len, get_or-range_with_len}
use Rattle.subnet_view.proofs.Apart.{contains_map, contains-from_map}
use Rattle.subnet_view.proofs.Members.{contains_here, contains_later, contains_cases, contains_none}

module _ {X Y : Type 0} (f : X → List Y) where
  pub in_lists : (xs : List X) (x : X) (y : Y) → Contains xs x → Contains (f x) y → Contains (flat_map f xs) y
  in_lists [] x y h k = absurd (contains_none x h)
  in_lists (z ∷ xs) x y h k = elim (contains_cases z x xs h) [
    | inl e ↦ Contains-append_left (f z) (flat_map f xs) y (subst (λ w. Contains (f w) y) (sym e) k)
    | inr later ↦ Contains-append_right (f z) (flat_map f xs) y (in_lists xs x y later k)
  ]

  pub from_lists : (xs : List X) (y : Y) → Contains (flat_map f xs) y → (x : X) × Contains xs x × Contains (f x) y
  from_lists [] y h = absurd (contains_none y h)
  from_lists (z ∷ xs) y h = elim (Contains-append_cases (f z) (flat_map f xs) y h) [
    | inl k ↦ (z, contains_here z xs, k)
    | inr later ↦ let (x, there, of) = from_lists xs y later in (x, contains_later z x xs there, of)
  ]

-- numbers that count up, and what is made of each
module _ {Y : Type 0} (f : ℕ → Y) where
  pub in_counted : (n k : ℕ) → k < n → Contains (map f (range_with_len 0 n)) (f k)
  in_counted n k less =
      let long = length-range_with_len 0 n in
      contains_map f (range_with_len 0 n) k (k, omega (arith, less, long), get_or-range_with_len 0 n k k less ∙ omega arith)

  pub from_counted : (n : ℕ) (y : Y) → Contains (map f (range_with_len 0 n)) y → (k : ℕ) × (k < n) × (f k ≡ y)
  from_counted n y h =
      let (k, (i, within, at), is) = contains-from_map f (range_with_len 0 n) y h in
      let less : i < n = omega (arith, within, length-range_with_len 0 n) in
      let same : 0 + i ≡ k = sym (get_or-range_with_len 0 n i k less) ∙ at in
      (k, omega (arith, less, same), is)
