-- End ports in their order: sorted lists of equal end ports are equal.
use Rattle.std.proofs.Common.{◌≡◌, ◌<◌, ◌≤◌, ℕ, suc, List, [], ◌∷◌, ◌⊎◌, length, inl, inr, refl, sym, ap, ◌∙◌, subst, Bool, true, false, cond, arith, get_or}
use Rattle.std.specs.Prelude.{Contains, slice_index}
use Rattle.std.specs.List.{AllByRecursion, IsDistinct}
use Rattle.std.specs.List.Sorted.{IsPermutation, IsSorted}
use Rattle.std.specs.declared.cmp.Ordering.{Ordering}
use Rattle.std.specs.declared.cmp.Ordering.TheVariants.{Less, Equal, Greater}
use Rattle.std.specs.Ordering.{is_lt, is_eq, ordering_reverse, eq_by_cmp}
use Rattle.std.specs.Cmp.{IsTotalOrder, tied_itself}
use Rattle.std.specs.Cmp.Lexicographic.{nat_list_cmp_total}
use Rattle.std.specs.FinMap.{IsAntisymmetric, slice_cmp-IsAntisymmetric, nat_cmp-IsAntisymmetric}
use Rattle.std.proofs.lemmas.Bool.{false_from_ne_true}
use Rattle.std.proofs.lemmas.Cmp.{on_total, eq_by_cmp_equiv}
use Rattle.std.proofs.lemmas.Map.Keys.{IsDistinct-IsPermutation}
use Rattle.reply_facts.proofs.Keys.{equal_from_test}
use Rattle.std.proofs.lemmas.List.Sorted.{Contains-permutation, IsPermutation-sym, ranks_by, sorted_far}
use Rattle.subnet_view.specs.declared.end_port.EndPort.{EndPort}
use Rattle.subnet_view.specs.EndPort.{port_numbers, port_cmp, comes_before, put_in_order, in_order}
use Rattle.subnet_view.proofs.Apart.{Apart}
use Rattle.subnet_view.proofs.Members.{contains_here, contains_later, contains_cases, contains_none, contains_as, contains_first}

-- the order of end ports is total
pub port_total : IsTotalOrder port_cmp
port_total = on_total port_numbers nat_list_cmp_total

-- the end port of its numbers
port_from : List ℕ → ℕ × EndPort
port_from ns = (slice_index ns 0, record { node = slice_index ns 1; port = slice_index ns 2 })

-- only equal end ports tie
pub port_exact : IsAntisymmetric port_cmp
unfolding port_from
port_exact a b e = ap port_from (slice_cmp-IsAntisymmetric nat_cmp-IsAntisymmetric (port_numbers a) (port_numbers b) e)

-- each element comes before those after it
abbrev pub Rises : List (ℕ × EndPort) → Type 0
Rises [] = Unit {0}
Rises (x ∷ xs) = ((y : ℕ × EndPort) → Contains xs y → port_cmp x y ≡ Less) × Rises xs

-- nothing comes before itself
pub not_before_itself : (x : ℕ × EndPort) → port_cmp x x ≡ Less → ⊥
not_before_itself x e = cc (ap is_lt (sym e ∙ tied_itself port_total x))

-- of two, one does not come before the other and after it
pub one_way : (x y : ℕ × EndPort) → port_cmp x y ≡ Less → port_cmp y x ≡ Less → ⊥
one_way x y h k = not_before_itself x (port_total.trans x y x h k)

-- rising lists with the same members are the same
pub rises_once : (xs ys : List (ℕ × EndPort)) → Rises xs → Rises ys → ((x : ℕ × EndPort) → Contains xs x → Contains ys x)
    → ((x : ℕ × EndPort) → Contains ys x → Contains xs x) → xs ≡ ys
rises_once [] [] r s h k = refl
rises_once [] (y ∷ ys) r s h k = absurd (contains_none y (k y (contains_here y ys)))
rises_once (x ∷ xs) [] r s h k = absurd (contains_none x (h x (contains_here x xs)))
rises_once (x ∷ xs) (y ∷ ys) r s h k =
    let same : x ≡ y = first (contains_cases y x ys (h x (contains_here x xs))) (contains_cases x y xs (k y (contains_here y ys))) in
    let rest = rises_once xs ys r.1 s.1
    (λ z m. later z (contains_cases y z ys (h z (contains_later x z xs m))) (λ e. not_before_itself x (subst (λ (w : ℕ × EndPort). port_cmp x w ≡ Less) (sym e
    ∙ sym same) (r.0 z m))))
    (λ z m. later' z (contains_cases x z xs (k z (contains_later y z ys m))) (λ e. not_before_itself y (subst (λ (w : ℕ × EndPort). port_cmp y w ≡ Less) (sym e
    ∙ same) (s.0 z m)))) in
    λ i. same i ∷ rest i
  where
    first : (y ≡ x) ⊎ Contains ys x → (x ≡ y) ⊎ Contains xs y → x ≡ y
    first (inl e) b = sym e
    first (inr m) (inl e) = e
    first (inr m) (inr n) = absurd (one_way x y (r.0 y n) (s.0 x m))

    later : (z : ℕ × EndPort) → (y ≡ z) ⊎ Contains ys z → (y ≡ z → ⊥) → Contains ys z
    later z (inl e) n = absurd (n e)
    later z (inr m) n = m

    later' : (z : ℕ × EndPort) → (x ≡ z) ⊎ Contains xs z → (x ≡ z → ⊥) → Contains xs z
    later' z (inl e) n = absurd (n e)
    later' z (inr m) n = m

-- what is sorted and apart rises
pub from_not_less : (x y : ℕ × EndPort) → (x ≡ y → ⊥) → is_lt (port_cmp y x) ≡ false → port_cmp x y ≡ Less
from_not_less x y differ h =
    elim (port_cmp x y) as (λ o. port_cmp x y ≡ o → o ≡ Less) [
      | Less ↦ λ e. refl
      | Equal ↦ λ e. absurd (differ (port_exact x y e))
      | Greater ↦ λ e. let k : is_lt (port_cmp y x) ≡ true = ap is_lt (port_total.antisymm y x ∙ ap ordering_reverse e) in absurd (cc)
    ] refl

rises_far : (xs : List (ℕ × EndPort)) → Apart xs
    → ((i j : ℕ) (d : ℕ × EndPort) → i ≤ j → j < length xs → is_lt (port_cmp (get_or xs j d) (get_or xs i d)) ≡ false) → Rises xs
rises_far [] a far = tt
rises_far (x ∷ xs) a far = (
  λ y h. from_not_less x y (λ e. a.0 (contains_as xs (sym e) h)) (ap (λ z. is_lt (port_cmp z x)) (sym h.2)
      ∙ far 0 (suc h.0) y (omega arith) (omega (arith, h.1))),
  rises_far xs a.1 (λ i j d p q. far (suc i) (suc j) d (omega arith) (omega arith)),
)

-- a permutation keeps elements apart ----------------------------------------------------

abbrev ties : ℕ × EndPort → ℕ × EndPort → Bool
ties x y = eq_by_cmp port_cmp x y

all_differ : (x : ℕ × EndPort) (xs : List (ℕ × EndPort)) → (Contains xs x → ⊥) → AllByRecursion (λ y. ties x y ≡ false) xs
all_differ x [] n = tt
all_differ x (y ∷ xs) n = (
  false_from_ne_true (ties x y) (λ e. n (contains_first xs (sym (port_exact x y (equal_from_test (port_cmp x y) e))))),
  all_differ x xs (λ h. n (contains_later y x xs h)),
)

distinct_from_apart : (xs : List (ℕ × EndPort)) → Apart xs → IsDistinct ties xs
unfolding IsDistinct
distinct_from_apart [] a = tt
distinct_from_apart (x ∷ xs) a = (all_differ x xs a.0, distinct_from_apart xs a.1)

not_among : (x : ℕ × EndPort) (xs : List (ℕ × EndPort)) → AllByRecursion (λ y. ties x y ≡ false) xs → Contains xs x → ⊥
not_among x [] all h = contains_none x h
not_among x (y ∷ xs) all h =
    elim (contains_cases y x xs h) [
      | inl e ↦ let t : ties x x ≡ true = ap is_eq (tied_itself port_total x) in
          let f : ties x x ≡ false = ap (ties x) (sym e) ∙ all.0 in absurd (cc)
      | inr k ↦ not_among x xs all.1 k
    ]

apart_from_distinct : (xs : List (ℕ × EndPort)) → IsDistinct ties xs → Apart xs
unfolding IsDistinct
apart_from_distinct [] d = tt
apart_from_distinct (x ∷ xs) d = (not_among x xs d.0, apart_from_distinct xs d.1)

apart_permutation : (xs ys : List (ℕ × EndPort)) → IsPermutation xs ys → Apart xs → Apart ys
apart_permutation xs ys p a = apart_from_distinct ys (IsDistinct-IsPermutation ties (eq_by_cmp_equiv port_total).symm xs ys p (distinct_from_apart xs a))

-- each put where it belongs ------------------------------------------------------------------

pub less_from_test : (o : Ordering) → is_lt o ≡ true → o ≡ Less
less_from_test Less e = refl
less_from_test Equal e = absurd (cc)
less_from_test Greater e = absurd (cc)

was_put : (e : ℕ × EndPort) (xs : List (ℕ × EndPort)) (y : ℕ × EndPort) → Contains (put_in_order e xs) y → Contains (e ∷ xs) y
was_put e [] y h = h
was_put e (x ∷ xs) y h =
    elim (comes_before e x) as (λ t. Contains (cond t (e ∷ x ∷ xs) (x ∷ put_in_order e xs)) y → Contains (e ∷ x ∷ xs) y) [
      | true ↦ λ k. k
      | false ↦ λ k. (elim (contains_cases x y (put_in_order e xs) k) [
        | inl i ↦ contains_later e y (x ∷ xs) (contains_first xs i)
        | inr l ↦ (elim (contains_cases e y xs (was_put e xs y l)) [
          | inl i ↦ contains_first (x ∷ xs) i
          | inr m ↦ contains_later e y (x ∷ xs) (contains_later x y xs m)
        ])
      ])
    ] h

is_put : (e : ℕ × EndPort) (xs : List (ℕ × EndPort)) (y : ℕ × EndPort) → Contains (e ∷ xs) y → Contains (put_in_order e xs) y
is_put e [] y h = h
is_put e (x ∷ xs) y h =
    elim (comes_before e x) as (λ t. Contains (cond t (e ∷ x ∷ xs) (x ∷ put_in_order e xs)) y) [
      | true ↦ h
      | false ↦ (elim (contains_cases e y (x ∷ xs) h) [
        | inl i ↦ contains_later x y (put_in_order e xs) (is_put e xs y (contains_first xs i))
        | inr k ↦ (elim (contains_cases x y xs k) [
          | inl i ↦ contains_first (put_in_order e xs) i
          | inr m ↦ contains_later x y (put_in_order e xs) (is_put e xs y (contains_later e y xs m))
        ])
      ])
    ]

pub was_ordered : (xs : List (ℕ × EndPort)) (y : ℕ × EndPort) → Contains (in_order xs) y → Contains xs y
was_ordered [] y h = h
was_ordered (x ∷ xs) y h =
    elim (contains_cases x y (in_order xs) (was_put x (in_order xs) y h)) [
      | inl i ↦ contains_first xs i
      | inr k ↦ contains_later x y xs (was_ordered xs y k)
    ]

pub is_ordered : (xs : List (ℕ × EndPort)) (y : ℕ × EndPort) → Contains xs y → Contains (in_order xs) y
is_ordered [] y h = h
is_ordered (x ∷ xs) y h =
    is_put x (in_order xs) y (elim (contains_cases x y xs h) [
      | inl i ↦ contains_first (in_order xs) i
      | inr k ↦ contains_later x y (in_order xs) (is_ordered xs y k)
    ])

rises_put : (e : ℕ × EndPort) (xs : List (ℕ × EndPort)) → Rises xs → (Contains xs e → ⊥) → Rises (put_in_order e xs)
rises_put e [] r n = (λ y h. absurd (contains_none y h), tt)
rises_put e (x ∷ xs) r n =
    elim (comes_before e x) as (λ t. comes_before e x ≡ t → Rises (cond t (e ∷ x ∷ xs) (x ∷ put_in_order e xs))) [
      | true ↦ λ q.
          let less = less_from_test (port_cmp e x) q in (
            λ y h. (elim (contains_cases x y xs h) [
              | inl i ↦ ap (port_cmp e) (sym i) ∙ less
              | inr k ↦ port_total.trans e x y less (r.0 y k)
            ]),
            r,
          )
      | false ↦ λ q. (
        λ y h. (elim (contains_cases e y xs (was_put e xs y h)) [
          | inl i ↦ ap (port_cmp x) (sym i) ∙ from_not_less x e (λ s. n (contains_first xs s)) q
          | inr k ↦ r.0 y k
        ]),
        rises_put e xs r.1 (λ h. n (contains_later x e xs h)),
      )
    ] refl

pub in_order_rises : (xs : List (ℕ × EndPort)) → Apart xs → Rises (in_order xs)
in_order_rises [] a = tt
in_order_rises (x ∷ xs) a = rises_put x (in_order xs) (in_order_rises xs a.1) (λ h. a.0 (was_ordered xs x h))

-- a sorted permutation is the list in order
pub sorted_is_in_order : (xs ys : List (ℕ × EndPort)) → Apart xs → IsPermutation xs ys → IsSorted port_cmp ys → ys ≡ in_order xs
sorted_is_in_order xs ys a p up =
    rises_once ys (in_order xs) (rises_far ys (apart_permutation xs ys p a) (sorted_far _ (ranks_by nat_list_cmp_total port_numbers) ys up))
    (in_order_rises xs a)
    (λ x h. is_ordered xs x (Contains-permutation ys xs x (IsPermutation-sym xs ys p) h))
    (λ x h. Contains-permutation xs ys x p (was_ordered xs x h))
