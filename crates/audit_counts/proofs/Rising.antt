-- Rising lists: those with the same elements are the same, so that what is sorted, with each once, is `each_once`.
use Rattle.std.proofs.Common.{◌≡◌, ◌⊎◌, List, [], ◌∷◌, inl, inr, refl, sym, ap, ◌∙◌, subst, Bool, true, arith}
use Rattle.std.specs.Prelude.{Contains}
use Rattle.std.specs.List.{AllByRecursion, AllPairs, dedup}
use Rattle.std.specs.List.Sorted.{IsPermutation, IsSorted, IsStrictlySortedBy}
use Rattle.std.specs.declared.cmp.Ordering.{Ordering}
use Rattle.std.specs.declared.cmp.Ordering.TheVariants.{Less, Equal, Greater}
use Rattle.std.specs.Ordering.{is_lt, ordering_reverse, eq_by_cmp}
use Rattle.std.specs.Cmp.{IsEquivalence, IsTotalOrder, tied_itself}
use Rattle.std.specs.FinMap.{IsAntisymmetric}
use Rattle.std.proofs.lemmas.List.Kept.{AllPairs-cons, Contains-dedup, Contains-from_dedup, IsStrictlySortedBy-dedup}
use Rattle.std.proofs.lemmas.List.Sorted.{Contains-permutation, IsPermutation-sym}
use Rattle.std.proofs.lemmas.Map.Keys.{sorted_head, sorted_tail}
use Rattle.subnet_view.proofs.Members.{contains_here, contains_later, contains_cases, contains_none, contains_first}
use Rattle.subnet_view.proofs.Taken.{all_from}
use Rattle.audit_counts.specs.InOrder.{each_once, put_beside, put_once}

-- what holds of all of a list holds of each element
held_at : {X : Type 0} (P : X → Type 0) (xs : List X) → AllByRecursion P xs → (x : X) → Contains xs x → P x
held_at P [] all x there = absurd (contains_none x there)
held_at P (y ∷ xs) all x there =
    elim (contains_cases y x xs there) [
      | inl e ↦ subst P e all.0
      | inr later ↦ held_at P xs all.1 x later
    ]

module _ {X : Type 0} (cmp : X → X → Ordering) where
  -- each element comes before those after it
  abbrev pub Rises : List X → Type 0
  Rises [] = Unit {0}
  Rises (x ∷ xs) = ((y : X) → Contains xs y → cmp x y ≡ Less) × Rises xs

  -- of each two
  pub pairs_rise : (xs : List X) → Rises xs → AllPairs (λ a b. cmp a b ≡ Less) xs
  pairs_rise [] rises = λ i j d less within. absurd (omega arith)
  pairs_rise (x ∷ xs) rises =
      AllPairs-cons (λ a b. cmp a b ≡ Less) x xs (all_from (λ b. cmp x b ≡ Less) xs (λ b there. rises.0 b there)) (pairs_rise xs rises.1)

  -- what is sorted strictly rises
  from_sorted : (xs : List X) → IsStrictlySortedBy cmp xs → Rises xs
  from_sorted [] sorted = tt
  from_sorted (x ∷ xs) sorted = (held_at (λ y. cmp x y ≡ Less) xs (sorted_head cmp x xs sorted), from_sorted xs (sorted_tail cmp x xs sorted))

  -- what is put in is there, and nothing else but what was
  put_has : (x z : X) (ys : List X) → Contains (put_once cmp x ys) z → (x ≡ z) ⊎ Contains ys z
  put_has x z [] there = contains_cases x z [] there
  put_has x z (y ∷ ys) there =
      elim (cmp x y) as (λ o. Contains (put_beside o x y ys (put_once cmp x ys)) z → (x ≡ z) ⊎ Contains (y ∷ ys) z) [
        | Less ↦ λ m. contains_cases x z (y ∷ ys) m
        | Equal ↦ λ m. inr m
        | Greater ↦ λ m. (elim (contains_cases y z (put_once cmp x ys) m) [
          | inl e ↦ inr (contains_first ys e)
          | inr later ↦ (elim (put_has x z ys later) [
            | inl e ↦ inl e
            | inr n ↦ inr (contains_later y z ys n)
          ])
        ])
      ] there

  pub from_once : (xs : List X) (z : X) → Contains (each_once cmp xs) z → Contains xs z
  from_once [] z there = there
  from_once (x ∷ xs) z there =
      elim (put_has x z (each_once cmp xs) there) [
        | inl e ↦ contains_first xs e
        | inr m ↦ contains_later x z xs (from_once xs z m)
      ]

  kept_there : (x z : X) (ys : List X) → Contains ys z → Contains (put_once cmp x ys) z
  kept_there x z [] there = absurd (contains_none z there)
  kept_there x z (y ∷ ys) there =
      elim (cmp x y) as (λ o. Contains (put_beside o x y ys (put_once cmp x ys)) z) [
        | Less ↦ contains_later x z (y ∷ ys) there
        | Equal ↦ there
        | Greater ↦ (elim (contains_cases y z ys there) [
          | inl e ↦ contains_first (put_once cmp x ys) e
          | inr m ↦ contains_later y z (put_once cmp x ys) (kept_there x z ys m)
        ])
      ]

  module _ (total : IsTotalOrder cmp) where
    not_before_itself : (x : X) → cmp x x ≡ Less → ⊥
    not_before_itself x e = cc (ap is_lt (sym e ∙ tied_itself total x))

    one_way : (x y : X) → cmp x y ≡ Less → cmp y x ≡ Less → ⊥
    one_way x y h k = not_before_itself x (total.trans x y x h k)

    -- rising lists with the same elements are the same
    rises_once : (xs ys : List X) → Rises xs → Rises ys → ((x : X) → Contains xs x → Contains ys x) → ((x : X) → Contains ys x → Contains xs x) → xs ≡ ys
    rises_once [] [] r s h k = refl
    rises_once [] (y ∷ ys) r s h k = absurd (contains_none y (k y (contains_here y ys)))
    rises_once (x ∷ xs) [] r s h k = absurd (contains_none x (h x (contains_here x xs)))
    rises_once (x ∷ xs) (y ∷ ys) r s h k =
        let same : x ≡ y = first (contains_cases y x ys (h x (contains_here x xs))) (contains_cases x y xs (k y (contains_here y ys))) in
        let rest = rises_once xs ys r.1 s.1
        (λ z m. later y z ys (contains_cases y z ys (h z (contains_later x z xs m)))
        (λ e. not_before_itself x (subst (λ (w : X). cmp x w ≡ Less) (sym e ∙ sym same) (r.0 z m))))
        (λ z m. later x z xs (contains_cases x z xs (k z (contains_later y z ys m)))
        (λ e. not_before_itself y (subst (λ (w : X). cmp y w ≡ Less) (sym e ∙ same) (s.0 z m)))) in
        λ i. same i ∷ rest i
      where
        first : (y ≡ x) ⊎ Contains ys x → (x ≡ y) ⊎ Contains xs y → x ≡ y
        first (inl e) b = sym e
        first (inr m) (inl e) = e
        first (inr m) (inr n) = absurd (one_way x y (r.0 y n) (s.0 x m))

        later : (w z : X) (ws : List X) → (w ≡ z) ⊎ Contains ws z → (w ≡ z → ⊥) → Contains ws z
        later w z ws (inl e) n = absurd (n e)
        later w z ws (inr m) n = m

    put_rises : (x : X) (ys : List X) → Rises ys → Rises (put_once cmp x ys)
    put_rises x [] rises = (λ z there. absurd (contains_none z there), tt)
    put_rises x (y ∷ ys) rises =
        elim (cmp x y) as (λ o. cmp x y ≡ o → Rises (put_beside o x y ys (put_once cmp x ys))) [
          | Less ↦ λ e. (
            λ z there. (elim (contains_cases y z ys there) [
              | inl is ↦ subst (λ (w : X). cmp x w ≡ Less) is e
              | inr m ↦ total.trans x y z e (rises.0 z m)
            ]),
            rises,
          )
          | Equal ↦ λ e. rises
          | Greater ↦ λ e. (
            λ z there. (elim (put_has x z ys there) [
              | inl is ↦ subst (λ (w : X). cmp y w ≡ Less) is (total.antisymm y x ∙ ap ordering_reverse e)
              | inr m ↦ rises.0 z m
            ]),
            put_rises x ys rises.1,
          )
        ] refl

    pub once_rises : (xs : List X) → Rises (each_once cmp xs)
    once_rises [] = tt
    once_rises (x ∷ xs) = put_rises x (each_once cmp xs) (once_rises xs)

    module _ (exact : IsAntisymmetric cmp) where
      is_put : (x : X) (ys : List X) → Contains (put_once cmp x ys) x
      is_put x [] = contains_here x []
      is_put x (y ∷ ys) =
          elim (cmp x y) as (λ o. cmp x y ≡ o → Contains (put_beside o x y ys (put_once cmp x ys)) x) [
            | Less ↦ λ e. contains_here x (y ∷ ys)
            | Equal ↦ λ e. contains_first ys (sym (exact x y e))
            | Greater ↦ λ e. contains_later y x (put_once cmp x ys) (is_put x ys)
          ] refl

      pub in_once : (xs : List X) (z : X) → Contains xs z → Contains (each_once cmp xs) z
      in_once [] z there = there
      in_once (x ∷ xs) z there =
          elim (contains_cases x z xs there) [
            | inl e ↦ subst (λ (w : X). Contains (put_once cmp x (each_once cmp xs)) w) e (is_put x (each_once cmp xs))
            | inr m ↦ kept_there x z (each_once cmp xs) (in_once xs z m)
          ]

      -- what is sorted, with each once
      pub sorted_once : (eq : X → X → Bool) → IsEquivalence eq → ((x y : X) → eq x y ≡ true → x ≡ y) → ((x y : X) → eq x y ≡ eq_by_cmp cmp x y)
          → (xs sorted : List X) → IsPermutation xs sorted → IsSorted cmp sorted → dedup eq sorted ≡ each_once cmp xs
      sorted_once eq equiv same ties xs sorted moved in_order =
          rises_once (dedup eq sorted) (each_once cmp xs) (from_sorted (dedup eq sorted) (IsStrictlySortedBy-dedup total ties sorted in_order)) (once_rises xs)
          (λ z m. in_once xs z (Contains-permutation sorted xs z (IsPermutation-sym xs sorted moved) (Contains-from_dedup eq sorted z m)))
          (λ z m. Contains-dedup equiv same sorted z (Contains-permutation xs sorted z moved (from_once xs z m)))
