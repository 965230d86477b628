-- The farthest vertices.
use Rattle.std.proofs.Common.{◌≡◌, ◌<◌, ◌≤◌, ◌⊎◌, ◌+◌, ◌-◌, ◌++◌, ℕ, zero, suc, List, [], ◌∷◌, inl, inr, refl, sym, ap}
use Rattle.std.proofs.Common.{◌∙◌, subst, arith, add-one, true, false, not, Bool, cond, ◌&&◌, ◌||◌, length, min, take}
use Rattle.std.proofs.lemmas.Bool.{and_parts, cases_eq, cases_lt, le-ltb, lt-ltb, ltb-true, or_cases}
use Rattle.std.proofs.lemmas.Bool.Decides.{nat_tests}
use Rattle.std.proofs.lemmas.List.{get_or_append_left, get_or-append_right, length-append, take-append-le, take_all}
use Rattle.std.proofs.lemmas.Option.{same_Some}
use Rattle.std.specs.Prelude.{Option, None, Some, nat_lt, slice_index, slice_index_or}
use Rattle.port_graph.specs.declared.edge.Edge.{Edge}
use Rattle.spread_labels.specs.KeyOrder.{before_by}
use Rattle.spread_labels.specs.Growth.{earlier_of, earliest_of}
use Rattle.spread_labels.specs.Orders.{AreKeys, numbers_from}
use Rattle.spread_labels.proofs.Earlier.{earliest_more, numbers_more}
use Rattle.spread_labels.proofs.KeyOrder.{keys_tell_apart}
use Rattle.spread_labels.proofs.Numbers.{made_at}
use Rattle.depth_orders.specs.DepthOrder.{with_next}
use Rattle.trial_loads.specs.Starts.{is_farther, near_start, near_starts, next_start, starts, starts_before}
use Rattle.trial_loads.specs.StartsLaw.{IsFarthest, StartsLaw}

-- a vertex that is not before another, or not after ---------------------------------------------

abbrev test : Option ℕ → Option ℕ → Bool → Bool
test x y b = is_farther x y || (not (is_farther y x) && b)

not_farther : (x : Option ℕ) → is_farther x x ≡ false
not_farther None = refl
not_farther (Some d) = grind (arith, nat_tests)

-- the test by distance is a strict total order where that of equals is one
known : (x y : ℕ) (b : Bool) → (nat_lt y x || (not (nat_lt x y) && b)) ≡ true → (y < x) ⊎ ((y ≤ x) × (b ≡ true))
known x y b h =
    elim (or_cases (nat_lt y x) (not (nat_lt x y) && b) h) [
      | inl less ↦ inl (ltb-true y x less)
      | inr both ↦
          let parts = and_parts (not (nat_lt x y)) b both in
          inr (
            elim (cases_lt x y) [
              | inl less ↦ (let no : not true ≡ true = ap not (sym (lt-ltb x y less)) ∙ parts.0 in absurd (cc))
              | inr above ↦ above
            ],
            parts.1,
          )
    ]

less_tested : (x z : ℕ) (b : Bool) → z < x → (nat_lt z x || (not (nat_lt x z) && b)) ≡ true
less_tested x z b less = ap (λ t. t || (not (nat_lt x z) && b)) (lt-ltb z x less)

equal_tested : (x z : ℕ) (b : Bool) → z ≤ x → b ≡ true → (nat_lt z x || (not (nat_lt x z) && b)) ≡ true
equal_tested x z b below is = (λ i. nat_lt z x || (not (le-ltb x z below i) && is i)) ∙ or_true (nat_lt z x)
  where
    or_true : (t : Bool) → (t || true) ≡ true
    or_true true = refl
    or_true false = refl

test_trans : (x y z : Option ℕ) (ab bc ac : Bool) → (ab ≡ true → bc ≡ true → ac ≡ true) → test x y ab ≡ true → test y z bc ≡ true → test x z ac ≡ true
test_trans None None None ab bc ac then h k = then h k
test_trans None None (Some z) ab bc ac then h k = refl
test_trans None (Some y) None ab bc ac then h k = absurd (cc)
test_trans None (Some y) (Some z) ab bc ac then h k = refl
test_trans (Some x) None z ab bc ac then h k = absurd (cc)
test_trans (Some x) (Some y) None ab bc ac then h k = absurd (cc)
test_trans (Some x) (Some y) (Some z) ab bc ac then h k =
    elim (known x y ab h) [
      | inl one ↦ (elim (known y z bc k) [
        | inl other ↦ less_tested x z ac (omega (arith, one, other))
        | inr other ↦ less_tested x z ac (omega (arith, one, other.0))
      ])
      | inr one ↦ (elim (known y z bc k) [
        | inl other ↦ less_tested x z ac (omega (arith, one.0, other))
        | inr other ↦ equal_tested x z ac (omega (arith, one.0, other.0)) (then one.1 other.1)
      ])
    ]

test_total : (x y : Option ℕ) (ab ba : Bool) → (ab ≡ false → ba ≡ true) → test x y ab ≡ false → test y x ba ≡ true
test_total None None ab ba then e = then e
test_total None (Some y) ab ba then e = absurd (cc)
test_total (Some x) None ab ba then e = refl
test_total (Some x) (Some y) ab ba then e = by (nat_lt x y) (nat_lt y x) e
  where
    by : (p q : Bool) → (q || (not p && ab)) ≡ false → (p || (not q && ba)) ≡ true
    by true q e = refl
    by false true e = absurd (cc)
    by false false e = then e

starts_keys : (near : List (Option ℕ)) (before : ℕ → ℕ → Bool) → AreKeys before → AreKeys (starts_before near before)
starts_keys near before keys = record {
  not_itself = λ a. let own = not_farther (slice_index_or near a None) in (λ i. own i || (not (own i) && keys.not_itself a i));
  trans = λ a b c h k. test_trans (slice_index_or near a None) (slice_index_or near b None) (slice_index_or near c None) (before a b) (before b c) (before a c)
      (keys.trans a b c) h k;
  total = λ a b other e. test_total (slice_index_or near a None) (slice_index_or near b None) (before a b) (before b a) (keys.total a b other) e;
}

-- the earliest of numbers -----------------------------------------------------------------------

module _ (before : ℕ → ℕ → Bool) (keys : AreKeys before) where
  no_numbers : (n : ℕ) → earliest_of before (numbers_from 0 n) ≡ None → n ≡ 0
  no_numbers zero e = refl
  no_numbers (suc n) e = absurd (cc)

  not_after : (t n x : ℕ) → before n x ≡ true → before t x ≡ false → before t n ≡ false
  not_after t n x p q =
      elim (before t n) as (λ b. before t n ≡ b → b ≡ false) [
        | true ↦ λ r. (let is = keys.trans t n x r p in absurd (cc))
        | false ↦ λ r. refl
      ] refl

  earliest_first : (n s : ℕ) → earliest_of before (numbers_from 0 n) ≡ Some s → (s < n) × ((t : ℕ) → t < n → before t s ≡ false)
  earliest_first zero s e = absurd (cc)
  earliest_first (suc n) s e =
      let zero_more : 0 + n ≡ n = omega arith in
      let grown = ap (earliest_of before) (numbers_more 0 n ∙ ap (λ k. numbers_from 0 n ++ k ∷ []) zero_more) ∙ earliest_more before (numbers_from 0 n) n in
      let is = same_Some (earlier_of before (earliest_of before (numbers_from 0 n)) n) s (sym grown ∙ e) in
      elim (earliest_of before (numbers_from 0 n)) as (λ o. earliest_of before (numbers_from 0 n) ≡ o → earlier_of before o n ≡ s
      → (s < suc n) × ((t : ℕ) → t < suc n → before t s ≡ false)) [
        | None ↦ λ q r.
            let none : n ≡ 0 = no_numbers n q in (
              omega (arith, r),
              λ t h. let same : t ≡ s = omega (arith, h, none, r) in subst (λ (x : ℕ). before x s ≡ false) (sym same) (keys.not_itself s),
            )
        | Some x ↦ λ q r.
            let i = earliest_first n x q in
            (elim (before n x) as (λ b. before n x ≡ b → cond b n x ≡ s → (s < suc n) × ((t : ℕ) → t < suc n → before t s ≡ false)) [
              | true ↦ λ p here. (
                omega (arith, here),
                λ t h. subst (λ (y : ℕ). before t y ≡ false) here (elim (cases_eq t n) [
                  | inl same ↦ subst (λ (y : ℕ). before y n ≡ false) (sym same) (keys.not_itself n)
                  | inr other ↦ (let below : t < n = grind arith in not_after t n x p (i.1 t below))
                ]),
              )
              | false ↦ λ p here. (
                omega (arith, here, i.0),
                λ t h. subst (λ (y : ℕ). before t y ≡ false) here (elim (cases_eq t n) [
                  | inl same ↦ subst (λ (y : ℕ). before y x ≡ false) (sym same) p
                  | inr other ↦ (let below : t < n = grind arith in i.1 t below)
                ]),
              )
            ] refl r)
      ] refl is

-- starts ----------------------------------------------------------------------------------------

parts : (x y : Option ℕ) (b : Bool) → test x y b ≡ false → (is_farther x y ≡ false) × (x ≡ y → b ≡ false)
parts x y b h = (
  by (is_farther x y) h,
  λ same. sym (λ i. not_farther x i || (not (not_farther x i) && b)) ∙ ap (λ o. test x o b) same ∙ h,
)
  where
    by : (p : Bool) → (p || (not (is_farther y x) && b)) ≡ false → p ≡ false
    by true e = absurd (cc)
    by false e = refl

module _ (edges : List (List Edge)) (before : ℕ → ℕ → Bool) (keys : AreKeys before) where
  farthest_next : (xs : List ℕ) (s : ℕ) → next_start edges before xs ≡ Some s → IsFarthest edges before xs s
  farthest_next xs s e =
      let near = near_starts edges xs in
      let n = length edges in
      let first = earliest_first (starts_before near before) (starts_keys near before keys) n s e in
      let at = λ (t : ℕ) (h : t < n). made_at (near_start edges xs) n t None h in
      let both = λ (t : ℕ) (h : t < n). parts (near_start edges xs t) (near_start edges xs s) (before t s)
      (sym (λ i. test (at t h i) (at s first.0 i) (before t s)) ∙ first.1 t h) in
      record { vertex = first.0; farthest = λ t h. (both t h).0; first = λ t h same. (both t h).1 same }

  abbrev AreFirst : ℕ → List ℕ → Type 0
  AreFirst n xs = (length xs ≡ n) × ((i : ℕ) → i < n → IsFarthest edges before (take i xs) (slice_index xs i))

  one_more : (n : ℕ) (xs : List ℕ) (s : ℕ) → AreFirst n xs → IsFarthest edges before xs s → AreFirst (suc n) (xs ++ s ∷ [])
  one_more n xs s so far = (
    length-append xs (s ∷ []) ∙ ap (λ k. k + 1) so.0 ∙ add-one n,
    λ i h. (elim (cases_eq i n) [
      | inl same ↦
          let taken : take n (xs ++ s ∷ []) ≡ xs = take-append-le n xs (s ∷ []) (omega (arith, so.0)) ∙ take_all n xs (omega (arith, so.0)) in
          subst (λ (j : ℕ). IsFarthest edges before (take j (xs ++ s ∷ [])) (slice_index (xs ++ s ∷ []) j)) (sym same)
          (subst (λ (p : List ℕ × ℕ). IsFarthest edges before p.0 p.1) (λ j. (sym taken j, sym last j)) far)
      | inr other ↦
          let below : i < n = grind arith in
          let taken = take-append-le i xs (s ∷ []) (omega (arith, below, so.0)) in
          let there = get_or_append_left xs (s ∷ []) 0 i (omega (arith, below, so.0)) in
          subst (λ (p : List ℕ × ℕ). IsFarthest edges before p.0 p.1) (λ j. (sym taken j, sym there j)) (so.1 i below)
    ]),
  )
    where
      last : slice_index (xs ++ s ∷ []) n ≡ s
      last = get_or-append_right xs (s ∷ []) n n 0 so.0 (omega arith) ∙ ap (λ k. slice_index (s ∷ []) k) (none n)
        where
          none : (k : ℕ) → k - k ≡ 0
          none k = omega arith

  starts_first : (n : ℕ) → n ≤ length edges → AreFirst n (starts edges before n)
  starts_first zero h = (refl, λ i l. absurd (omega (arith, l)))
  starts_first (suc n) h =
      let xs = starts edges before n in
      let so = starts_first n (omega (arith, h)) in
      elim (next_start edges before xs) as (λ o. next_start edges before xs ≡ o → AreFirst (suc n) (with_next xs o)) [
        | None ↦ λ e. (let none = no_numbers (starts_before (near_starts edges xs) before) (starts_keys (near_starts edges xs) before keys) (length edges) e in
            absurd (omega (arith, none, h)))
        | Some s ↦ λ e. one_more n xs s so (farthest_next xs s e)
      ] refl

pub starts_in_words : StartsLaw
starts_in_words edges keys =
    let least : min (length edges) 8 ≤ length edges = omega arith in
    let are = starts_first edges (before_by keys) (keys_tell_apart keys) (min (length edges) 8) least in
    record { all = are.0; each = λ i h. are.1 i (omega (arith, h, are.0)) }
