-- What a list contains, by cases on the list.
use Rattle.std.proofs.Common.{◌≡◌, zero, suc, List, [], ◌∷◌, ◌⊎◌, inl, inr, refl, sym, ap, ◌∙◌, subst, arith, Bool, true, false, cond, ◌&&◌}
use Rattle.std.specs.Prelude.{Contains, filter}
use Rattle.std.specs.List.{list_all}

module _ {X : Type 0} where
  -- a list contains its first element
  pub contains_here : (x : X) (xs : List X) → Contains (x ∷ xs) x
  contains_here x xs = (0, omega arith, refl)

  -- a longer list contains what the shorter does
  pub contains_later : (y x : X) (xs : List X) → Contains xs x → Contains (y ∷ xs) x
  contains_later y x xs h = (suc h.0, omega arith, h.2)

  -- what a list contains is first or later
  pub contains_cases : (y x : X) (xs : List X) → Contains (y ∷ xs) x → (y ≡ x) ⊎ Contains xs x
  contains_cases y x xs (zero, h, e) = inl e
  contains_cases y x xs (suc k, h, e) = inr (k, omega arith, e)

  -- an empty list contains nothing
  pub contains_none : (x : X) → Contains [] x → ⊥
  contains_none x h = omega arith

  -- what passes is kept
  pub contains_filter : (p : X → Bool) (xs : List X) (x : X) → Contains xs x → p x ≡ true → Contains (filter p xs) x
  contains_filter p [] x h e = absurd (contains_none x h)
  contains_filter p (y ∷ xs) x h e =
      elim (contains_cases y x xs h) [
        | inl q ↦ let P : Bool → Type 0 = λ t. Contains (cond t (y ∷ filter p xs) (filter p xs)) x in
            subst P (sym (ap p q ∙ e)) (subst (λ (z : X). Contains (z ∷ filter p xs) x) (sym q) (contains_here x (filter p xs)))
        | inr k ↦ (elim (p y) as (λ t. Contains (cond t (y ∷ filter p xs) (filter p xs)) x) [
          | true ↦ contains_later y x (filter p xs) (contains_filter p xs x k e)
          | false ↦ contains_filter p xs x k e
        ])
      ]

  -- what is kept was there and passes
  pub contains-from_filter : (p : X → Bool) (xs : List X) (x : X) → Contains (filter p xs) x → Contains xs x × (p x ≡ true)
  contains-from_filter p [] x h = absurd (contains_none x h)
  contains-from_filter p (y ∷ xs) x h =
      elim (p y) as (λ t. p y ≡ t → Contains (cond t (y ∷ filter p xs) (filter p xs)) x → Contains (y ∷ xs) x × (p x ≡ true)) [
        | true ↦ λ e k. (elim (contains_cases y x (filter p xs) k) [
          | inl q ↦ (subst (λ (z : X). Contains (z ∷ xs) x) (sym q) (contains_here x xs), ap p (sym q) ∙ e)
          | inr r ↦ let i = contains-from_filter p xs x r in (contains_later y x xs i.0, i.1)
        ])
        | false ↦ λ e k. let i = contains-from_filter p xs x k in (contains_later y x xs i.0, i.1)
      ] refl h

  -- a test that each element passes, all pass
  pub list_all_true : (p : X → Bool) (xs : List X) → ((x : X) → Contains xs x → p x ≡ true) → list_all p xs ≡ true
  list_all_true p [] h = refl
  list_all_true p (x ∷ xs) h = cc (h x (contains_here x xs), list_all_true p xs (λ y k. h y (contains_later x y xs k)))

  -- a test that all pass, each element passes
  pub list_all_at : (p : X → Bool) (xs : List X) → list_all p xs ≡ true → (x : X) → Contains xs x → p x ≡ true
  list_all_at p [] e x h = absurd (contains_none x h)
  list_all_at p (y ∷ xs) e x h =
      elim (p y) as (λ t. p y ≡ t → (t && list_all p xs) ≡ true → p x ≡ true) [
        | true ↦ λ q r. (elim (contains_cases y x xs h) [
          | inl i ↦ ap p (sym i) ∙ q
          | inr k ↦ list_all_at p xs r x k
        ])
        | false ↦ λ q r. cc
      ] refl e
