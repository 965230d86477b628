-- A sorted list that keeps the order of items that tie is the list in order.
use Rattle.std.proofs.Common.{◌≡◌, ◌∙◌, ℕ, suc, ◌<◌, ◌≤◌, List, [], ◌∷◌, length, get_or, Bool, true, false, cond, refl, sym, ap, subst, arith, not, ◌&&◌}
use Rattle.std.specs.List.{filter}
use Rattle.std.specs.List.Sorted.{IsSortedBy, IsStableBy, ties}
use Rattle.std.specs.Cmp.{IsStrictWeakOrder}
use Rattle.std.proofs.lemmas.List.Sorted.{sorted_far}
use Rattle.schedule_lines.specs.Tables.{in_order, put_in_order}

module _ {X : Type 0} (lt : X → X → Bool) (o : IsStrictWeakOrder lt) where
  -- none of these is less
  abbrev NotLess : X → List X → Type 0
  NotLess x [] = Unit {0}
  NotLess x (y ∷ ys) = (lt y x ≡ false) × NotLess x ys

  abbrev Rises : List X → Type 0
  Rises [] = Unit {0}
  Rises (x ∷ xs) = NotLess x xs × Rises xs

  not_less_itself : (x : X) → lt x x ≡ false
  not_less_itself x = elim (lt x x) as (λ b. lt x x ≡ b → b ≡ false) [
    | true ↦ λ e. sym e ∙ o.one_way x x e
    | false ↦ λ e. refl
  ] refl

  ties_itself : (x : X) → ties lt x x ≡ true
  ties_itself x = let e = not_less_itself x in ap (λ b. not b && not b) e

  tie : (x y : X) → lt x y ≡ false → lt y x ≡ false → ties lt x y ≡ true
  tie x y e f = ap (λ b. not b && not (lt y x)) e ∙ ap (λ b. not false && not b) f

  kept : (p : X → Bool) (y : X) (ys : List X) → p y ≡ true → filter p (y ∷ ys) ≡ y ∷ filter p ys
  kept p y ys e = ap (λ b. cond b (y ∷ filter p ys) (filter p ys)) e

  dropped : (p : X → Bool) (y : X) (ys : List X) → p y ≡ false → filter p (y ∷ ys) ≡ filter p ys
  dropped p y ys e = ap (λ b. cond b (y ∷ filter p ys) (filter p ys)) e

  -- the first that passes is among them
  first_not_less : (p : X → Bool) (y : X) (zs : List X) (x : X) (rest : List X) → filter p zs ≡ x ∷ rest → NotLess y zs → lt x y ≡ false
  first_not_less p y [] x rest e n = absurd (cc)
  first_not_less p y (z ∷ zs) x rest e n =
      elim (p z) as (λ b. p z ≡ b → lt x y ≡ false) [
        | true ↦ λ q. let same : z ∷ filter p zs ≡ x ∷ rest = sym (kept p z zs q) ∙ e in let head : z ≡ x = cc in
            subst (λ (w : X). lt w y ≡ false) head n.0
        | false ↦ λ q. first_not_less p y zs x rest (sym (dropped p z zs q) ∙ e) n.1
      ] refl

  same_tail : (p : X → Bool) (x : X) (xs ys : List X) → filter p (x ∷ xs) ≡ filter p (x ∷ ys) → filter p xs ≡ filter p ys
  same_tail p x xs ys e =
      elim (p x) as (λ b. p x ≡ b → filter p xs ≡ filter p ys) [
        | true ↦ λ q. let same : x ∷ filter p xs ≡ x ∷ filter p ys = sym (kept p x xs q) ∙ e ∙ kept p x ys q in cc
        | false ↦ λ q. sym (dropped p x xs q) ∙ e ∙ dropped p x ys q
      ] refl

  -- rising lists whose ties are the same are the same
  once : (xs ys : List X) → Rises xs → Rises ys → IsStableBy lt xs ys → xs ≡ ys
  once [] [] r s h = refl
  once [] (y ∷ ys) r s h = let e : y ∷ filter (ties lt y) ys ≡ [] = sym (kept (ties lt y) y ys (ties_itself y)) ∙ h y in absurd (cc)
  once (x ∷ xs) [] r s h = let e : [] ≡ x ∷ filter (ties lt x) xs = h x ∙ kept (ties lt x) x xs (ties_itself x) in absurd (cc)
  once (x ∷ xs) (y ∷ ys) r s h =
      let a : filter (ties lt x) (y ∷ ys) ≡ x ∷ filter (ties lt x) xs = h x ∙ kept (ties lt x) x xs (ties_itself x) in
      let b : filter (ties lt y) (x ∷ xs) ≡ y ∷ filter (ties lt y) ys = sym (h y) ∙ kept (ties lt y) y ys (ties_itself y) in
      let not_x : lt x y ≡ false = first_not_less (ties lt x) y (y ∷ ys) x _ a (not_less_itself y, s.0) in
      let not_y : lt y x ≡ false = first_not_less (ties lt y) x (x ∷ xs) y _ b (not_less_itself x, r.0) in
      let c : y ∷ filter (ties lt x) ys ≡ x ∷ filter (ties lt x) xs = sym (kept (ties lt x) y ys (tie x y not_x not_y)) ∙ a in
      let same : y ≡ x = cc in
      let rest : IsStableBy lt xs ys = λ z. same_tail (ties lt z) x ys xs (ap (λ w. filter (ties lt z) (w ∷ ys)) (sym same) ∙ h z) in
      ap (λ w. w ∷ xs) (sym same) ∙ ap (λ w. y ∷ w) (once xs ys r.1 s.1 rest)

  -- each put in its index --------------------------------------------------------------------

  more_not_less : (x y : X) (zs : List X) → lt y x ≡ false → NotLess y zs → NotLess x zs
  more_not_less x y [] e n = tt
  more_not_less x y (z ∷ zs) e n = (o.chain z y x n.0 e, more_not_less x y zs e n.1)

  put_not_less : (w x : X) (ys : List X) → lt x w ≡ false → NotLess w ys → NotLess w (put_in_order lt x ys)
  put_not_less w x [] e n = (e, tt)
  put_not_less w x (y ∷ ys) e n =
      elim (lt y x) as (λ b. NotLess w (cond b (y ∷ put_in_order lt x ys) (x ∷ y ∷ ys))) [
        | true ↦ (n.0, put_not_less w x ys e n.1)
        | false ↦ (e, n)
      ]

  rises_put : (x : X) (ys : List X) → Rises ys → Rises (put_in_order lt x ys)
  rises_put x [] r = (tt, tt)
  rises_put x (y ∷ ys) r =
      elim (lt y x) as (λ b. lt y x ≡ b → Rises (cond b (y ∷ put_in_order lt x ys) (x ∷ y ∷ ys))) [
        | true ↦ λ e. (put_not_less y x ys (o.one_way y x e) r.0, rises_put x ys r.1)
        | false ↦ λ e. ((e, more_not_less x y ys e r.0), r)
      ] refl

  rises_in_order : (xs : List X) → Rises (in_order lt xs)
  rises_in_order [] = tt
  rises_in_order (x ∷ xs) = rises_put x (in_order lt xs) (rises_in_order xs)

  -- two of which one is less do not both tie with a third
  both_tie : (z x y : X) → ties lt z x ≡ true → ties lt z y ≡ true → lt y x ≡ false
  both_tie z x y e f = o.chain y z x (second (lt z y) (lt y z) f) (first (lt z x) (lt x z) e)
    where
      first : (a b : Bool) → not a && not b ≡ true → a ≡ false
      first false b e = refl
      first true b e = sym e

      second : (a b : Bool) → not a && not b ≡ true → b ≡ false
      second false false e = refl
      second false true e = sym e
      second true b e = absurd (cc)

  swapped : (z x y : X) (xs ys : List X) → lt y x ≡ true → filter (ties lt z) xs ≡ filter (ties lt z) (x ∷ ys)
      → filter (ties lt z) (y ∷ xs) ≡ filter (ties lt z) (x ∷ y ∷ ys)
  swapped z x y xs ys less h =
      elim (ties lt z x) as (λ b. ties lt z x ≡ b → filter (ties lt z) (y ∷ xs) ≡ filter (ties lt z) (x ∷ y ∷ ys)) [
        | true ↦ λ e. (elim (ties lt z y) as (λ b. ties lt z y ≡ b → filter (ties lt z) (y ∷ xs) ≡ filter (ties lt z) (x ∷ y ∷ ys)) [
          | true ↦ λ f. let no : lt y x ≡ false = both_tie z x y e f in absurd (cc)
          | false ↦ λ f. dropped (ties lt z) y xs f ∙ h ∙ kept (ties lt z) x ys e
              ∙ ap (λ t. x ∷ t) (sym (dropped (ties lt z) y ys f)) ∙ sym (kept (ties lt z) x (y ∷ ys) e)
        ] refl)
        | false ↦ λ e. ap (λ t. cond (ties lt z y) (y ∷ t) t) (h ∙ dropped (ties lt z) x ys e) ∙ sym (dropped (ties lt z) x (y ∷ ys) e)
      ] refl

  stable_put : (z x : X) (ys : List X) → filter (ties lt z) (put_in_order lt x ys) ≡ filter (ties lt z) (x ∷ ys)
  stable_put z x [] = refl
  stable_put z x (y ∷ ys) =
      elim (lt y x) as (λ b. lt y x ≡ b → filter (ties lt z) (cond b (y ∷ put_in_order lt x ys) (x ∷ y ∷ ys)) ≡ filter (ties lt z) (x ∷ y ∷ ys)) [
        | true ↦ λ e. swapped z x y (put_in_order lt x ys) ys e (stable_put z x ys)
        | false ↦ λ e. refl
      ] refl

  stable_in_order : (xs : List X) → IsStableBy lt xs (in_order lt xs)
  stable_in_order [] z = refl
  stable_in_order (x ∷ xs) z =
      stable_put z x (in_order lt xs) ∙ ap (λ t. cond (ties lt z x) (x ∷ t) t) (stable_in_order xs z)

  -- what is sorted rises
  far : (x : X) (xs : List X) (f : (j : ℕ) (d : X) → j < length xs → lt (get_or xs j d) x ≡ false) → NotLess x xs
  far x [] f = tt
  far x (y ∷ ys) f = (f 0 y (omega arith), far x ys (λ j d h. f (suc j) d (omega arith)))

  rises_far : (xs : List X) → ((i j : ℕ) (d : X) → i ≤ j → j < length xs → lt (get_or xs j d) (get_or xs i d) ≡ false) → Rises xs
  rises_far [] f = tt
  rises_far (x ∷ xs) f = (
    far x xs (λ j d h. f 0 (suc j) d (omega arith) (omega arith)),
    rises_far xs (λ i j d p q. f (suc i) (suc j) d (omega arith) (omega arith)),
  )

  -- a stable sort gives the list in order
  pub sorted_is_in_order : (xs ys : List X) → IsSortedBy lt ys → IsStableBy lt xs ys → ys ≡ in_order lt xs
  sorted_is_in_order xs ys up stable =
      once ys (in_order lt xs) (rises_far ys (sorted_far lt o ys up)) (rises_in_order xs) (λ z. stable_in_order xs z ∙ sym (stable z))
