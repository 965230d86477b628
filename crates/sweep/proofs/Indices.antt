-- An item's index in the order of GUIDs and ports: what is found there, and how an item is inserted.
use Rattle.std.proofs.Common.{◌≡◌, ℕ, zero, suc, ◌+◌, ◌<◌, ◌≤◌, Bool, true, false, ◌&&◌, List, [], ◌∷◌, inl, inr, length, get_or, refl, arith, ap, sym, ◌∙◌, subst}
use Rattle.std.specs.Prelude.{Option, Some, None, find, insert, slice_get, ◌==◌}
use Rattle.std.specs.Option.{option_map_or}
use Rattle.std.specs.List.{AllByRecursion, AllWithin}
use Rattle.std.specs.List.Sorted.{IsPartitionedBy}
use Rattle.std.proofs.lemmas.Bool.{and_parts, cond-true, cond-false, cases_lt, eqb-true}
use Rattle.std.proofs.lemmas.Option.{slice_get-get_or, slice_get_within}
use Rattle.request_table.proofs.Indices.{all_map, found_at_index, if_passes, ordered_at, index_head, index_here, index_tail, some_is}
use Rattle.sweep.specs.Order.{AreInOrder, IsIndexFor, found_at, has_key, is_before, passes_at, placed}
use Rattle.sweep.proofs.Keys.{before_trans, first_later, first_other, level_same, not_before_same, same_key, other_key, later_key}

-- by GUID and port ------------------------------------------------------------------------------

pub found_by_key : {T : Type 0} (key : T → ℕ × ℕ) (guid port : ℕ) (xs : List T) (i : ℕ) → AreInOrder key xs → IsIndexFor key (guid, port) xs i
    → found_at key guid port xs ≡ if_passes (has_key key guid port) (slice_get xs i)
found_by_key {T} key guid port xs i ordered index =
    found_at_index (λ x y. is_before (key x) (key y)
    ≡ true) (λ x. is_before (key x) (guid, port)) (has_key key guid port) (λ x e. other_key (key x) guid port e) behind xs i ordered index
  where
    by : (x y : T) → is_before (key x) (guid, port) ≡ false → (b : Bool) → is_before (guid, port) (key x) ≡ b → ((key x).0 == guid && (key x).1 == port) ≡ false
        → is_before (key x) (key y) ≡ true → ((key y).0 == guid && (key y).1 == port) ≡ false
    by x y e true l f r = later_key (key y) guid port (before_trans (guid, port) (key x) (key y) l r)
    by x y e false l f r =
        let same = level_same (key x) (guid, port) e l in
        absurd (cc (same_key (key x) guid port same.0 same.1, f))

    behind : (x y : T) → is_before (key x) (guid, port) ≡ false → ((key x).0 == guid && (key x).1 == port) ≡ false → is_before (key x) (key y) ≡ true
        → ((key y).0 == guid && (key y).1 == port) ≡ false
    behind x y e f r = by x y e (is_before (guid, port) (key x)) refl f r

-- one put in ----------------------------------------------------------------------------------

-- where one has its GUID and port, that one stays
pub placed_there : {T : Type 0} (key : T → ℕ × ℕ) (x y : T) (xs : List T) (i : ℕ) → AreInOrder key xs → IsIndexFor key (key x) xs i → slice_get xs i ≡ Some y
    → (key y).0 ≡ (key x).0 → (key y).1 ≡ (key x).1 → placed key x xs ≡ xs
placed_there key x y [] i ordered index at e f = absurd (cc)
placed_there {T} key x y (z ∷ zs) zero ordered index at e f =
    cond-false _ _ _ (index_here (λ w. is_before (key w) (key x)) z zs index) ∙ cond-false _ _ _ (level (some_is z y at))
  where
    level : z ≡ y → is_before (key x) (key z) ≡ false
    level s = subst (λ (w : T). is_before (key x) (key w) ≡ false) (sym s) (not_before_same (key x) (key y) (sym e) (sym f))
placed_there key x y (z ∷ zs) (suc i) ordered index at e f =
    cond-true _ _ _ (index_head (λ w. is_before (key w) (key x)) z zs i index)
    ∙ ap (λ rest. z ∷ rest) (placed_there key x y zs i ordered.1 (index_tail (λ w. is_before (key w) (key x)) z zs i index) at e f)

-- where none has, it goes in at the index
pub placed_anew : {T : Type 0} (key : T → ℕ × ℕ) (x : T) (xs : List T) (i : ℕ) → IsIndexFor key (key x) xs i
    → ((y : T) → slice_get xs i ≡ Some y → ((key y).0 == (key x).0 && (key y).1 == (key x).1) ≡ false) → placed key x xs ≡ insert xs i x
placed_anew key x [] zero index other = refl
placed_anew key x [] (suc i) index other = absurd (omega (arith, index.within))
placed_anew key x (z ∷ zs) zero index other =
    cond-false _ _ _ (index_here (λ w. is_before (key w) (key x)) z zs index) ∙ cond-true _ _ _ (by (is_before (key x) (key z)) refl)
  where
    by : (b : Bool) → is_before (key x) (key z) ≡ b → is_before (key x) (key z) ≡ true
    by true e = e
    by false e =
        let same = level_same (key z) (key x) (index_here (λ w. is_before (key w) (key x)) z zs index) e in
        absurd (cc (same_key (key z) (key x).0 (key x).1 same.0 same.1, other z refl))
placed_anew key x (z ∷ zs) (suc i) index other =
    cond-true _ _ _ (index_head (λ w. is_before (key w) (key x)) z zs i index)
    ∙ ap (λ rest. z ∷ rest) (placed_anew key x zs i (index_tail (λ w. is_before (key w) (key x)) z zs i index) other)

-- by the test of what stands at the index ---------------------------------------------------------

pub some_passes : {T : Type 0} (p : T → Bool) (found o : Option T) → found ≡ if_passes p o → option_map_or p o false ≡ true → found ≡ o
some_passes p found None e t = e
some_passes p found (Some x) e t = e ∙ cond-true _ _ _ t

pub none_passes : {T : Type 0} (p : T → Bool) (found o : Option T) → found ≡ if_passes p o → option_map_or p o false ≡ false → found ≡ None
none_passes p found None e t = e
none_passes p found (Some x) e t = e ∙ cond-false _ _ _ t

module _ {T : Type 0} (key : T → ℕ × ℕ) (guid port : ℕ) (xs : List T) (i : ℕ) (ordered : AreInOrder key xs) (index : IsIndexFor key (guid, port) xs i) where
  pub found_there : passes_at (has_key key guid port) xs i ≡ true → found_at key guid port xs ≡ slice_get xs i
  found_there t = some_passes (has_key key guid port) (found_at key guid port xs) (slice_get xs i) (found_by_key key guid port xs i ordered index) t

  pub found_lost : passes_at (has_key key guid port) xs i ≡ false → found_at key guid port xs ≡ None
  found_lost t = none_passes (has_key key guid port) (found_at key guid port xs) (slice_get xs i) (found_by_key key guid port xs i ordered index) t

module _ {T : Type 0} (key : T → ℕ × ℕ) (x : T) (xs : List T) (i : ℕ) (index : IsIndexFor key (key x) xs i) where
  pub placed_as_is : AreInOrder key xs → passes_at (has_key key (key x).0 (key x).1) xs i ≡ true → placed key x xs ≡ xs
  placed_as_is ordered t = by (slice_get xs i) refl t
    where
      by : (o : Option T) → slice_get xs i ≡ o → option_map_or (has_key key (key x).0 (key x).1) o false ≡ true → placed key x xs ≡ xs
      by None e h = absurd (cc)
      by (Some y) e h =
          let p = and_parts _ _ h in
          placed_there key x y xs i ordered index e (eqb-true _ _ p.0) (eqb-true _ _ p.1)

  pub placed_in : passes_at (has_key key (key x).0 (key x).1) xs i ≡ false → placed key x xs ≡ insert xs i x
  placed_in t = placed_anew key x xs i index (λ y e. ap (λ o. option_map_or (has_key key (key x).0 (key x).1) o false) (sym e) ∙ t)

-- a node's first vertex ------------------------------------------------------------------------

-- the index of its least port is that of its first vertex
pub first_index : {T : Type 0} (key : T → ℕ × ℕ) (guid : ℕ) (xs : List T) (i : ℕ) → AreInOrder key xs → IsIndexFor key (guid, 0) xs i
    → find (λ x. (key x).0 == guid) xs ≡ if_passes (λ x. (key x).0 == guid) (slice_get xs i)
first_index {T} key guid xs i ordered index =
    found_at_index (λ x y. is_before (key x) (key y) ≡ true) (λ x. is_before (key x) (guid, 0)) (λ x. (key x).0 == guid) (λ x e. first_other (key x) guid e)
    (λ x y e f r. first_later (key x) (key y) guid e f r) xs i ordered index

-- the order stays
placed_later : {T : Type 0} (key : T → ℕ × ℕ) (x z : T) (zs : List T) → is_before (key z) (key x) ≡ true
    → AllByRecursion (λ y. is_before (key z) (key y) ≡ true) zs → AllByRecursion (λ y. is_before (key z) (key y) ≡ true) (placed key x zs)
placed_later key x z [] e all = (e, tt)
placed_later key x z (y ∷ ys) e all = by (is_before (key y) (key x)) (is_before (key x) (key y)) refl refl (placed_later key x z ys e all.1)
  where
    by : (b c : Bool) → is_before (key y) (key x) ≡ b → is_before (key x) (key y) ≡ c → AllByRecursion (λ w. is_before (key z) (key w) ≡ true) (placed key x ys)
        → AllByRecursion (λ w. is_before (key z) (key w) ≡ true) (placed key x (y ∷ ys))
    by true c p q rest = subst (AllByRecursion (λ w. is_before (key z) (key w) ≡ true)) (sym (cond-true _ _ _ p)) (all.0, rest)
    by false true p q rest = subst (AllByRecursion (λ w. is_before (key z) (key w) ≡ true)) (sym (cond-false _ _ _ p ∙ cond-true _ _ _ q)) (e, all)
    by false false p q rest = subst (AllByRecursion (λ w. is_before (key z) (key w) ≡ true)) (sym (cond-false _ _ _ p ∙ cond-false _ _ _ q)) all

pub placed_ordered : {T : Type 0} (key : T → ℕ × ℕ) (x : T) (xs : List T) → AreInOrder key xs → AreInOrder key (placed key x xs)
placed_ordered key x [] ordered = (tt, tt)
placed_ordered key x (y ∷ ys) ordered = by (is_before (key y) (key x)) (is_before (key x) (key y)) refl refl (placed_ordered key x ys ordered.1)
  where
    all_later : is_before (key x) (key y) ≡ true → AllByRecursion (λ w. is_before (key x) (key w) ≡ true) ys
    all_later e = all_map (λ w. is_before (key y) (key w) ≡ true) (λ w. is_before (key x) (key w)
        ≡ true) (λ w r. before_trans (key x) (key y) (key w) e r) ys ordered.0

    by : (b c : Bool) → is_before (key y) (key x) ≡ b → is_before (key x) (key y) ≡ c → AreInOrder key (placed key x ys)
        → AreInOrder key (placed key x (y ∷ ys))
    by true c p q rest = subst (AreInOrder key) (sym (cond-true _ _ _ p)) (placed_later key x y ys p ordered.0, rest)
    by false true p q rest = subst (AreInOrder key) (sym (cond-false _ _ _ p ∙ cond-true _ _ _ q)) ((q, all_later q), ordered)
    by false false p q rest = subst (AreInOrder key) (sym (cond-false _ _ _ p ∙ cond-false _ _ _ q)) ordered

-- the tests that a search makes: once one item is not before the index, no later one is
pub tests_fall : {T : Type 0} (key : T → ℕ × ℕ) (at : ℕ × ℕ) (xs : List T) → AreInOrder key xs → (i j : ℕ) (x y : T) → i ≤ j → slice_get xs i ≡ Some x
    → slice_get xs j ≡ Some y → is_before (key y) at ≡ true → is_before (key x) at ≡ true
tests_fall {T} key at xs ordered i j x y le e f before =
    elim (cases_lt i j) [
      | inl lt ↦ before_trans (key x) (key y) at (ordered_at (λ a b. is_before (key a) (key b) ≡ true) xs i j x y ordered lt e f) before
      | inr ge ↦ let n : i ≡ j = omega arith in
          let s : x ≡ y = some_is x y (sym e ∙ ap (slice_get xs) n ∙ f) in
          subst (λ (w : T). is_before (key w) at ≡ true) (sym s) before
    ]

-- so they part the list
pub tests_part : {T : Type 0} (key : T → ℕ × ℕ) (at : ℕ × ℕ) (xs : List T) → AreInOrder key xs → IsPartitionedBy (λ x. is_before (key x) at) xs
tests_part key at xs ordered i j d le within before =
    tests_fall key at xs ordered i j (get_or xs i d) (get_or xs j d) le (slice_get-get_or xs i d (omega arith)) (slice_get-get_or xs j d within) before

-- one that is before the index has none behind it that is, and the other way round
pub fall_below : {T : Type 0} (key : T → ℕ × ℕ) (at : ℕ × ℕ) (xs : List T) → AreInOrder key xs → (i : ℕ) (x : T) → slice_get xs i ≡ Some x
    → is_before (key x) at ≡ true → AllWithin (λ y. is_before (key y) at ≡ true) xs 0 (i + 1)
fall_below key at xs ordered i x here before k d l h =
    let within : i < length xs = slice_get_within xs i x here in
    tests_fall key at xs ordered k i (get_or xs k d) x (omega (arith, h)) (slice_get-get_or xs k d (omega (arith, h, within))) here before

pub fall_above : {T : Type 0} (key : T → ℕ × ℕ) (at : ℕ × ℕ) (xs : List T) → AreInOrder key xs → (i : ℕ) (x : T) → slice_get xs i ≡ Some x
    → is_before (key x) at ≡ false → AllWithin (λ y. is_before (key y) at ≡ false) xs i (length xs)
fall_above key at xs ordered i x here behind k d l h = by (is_before (key (get_or xs k d)) at) refl
  where
    by : (b : Bool) → is_before (key (get_or xs k d)) at ≡ b → is_before (key (get_or xs k d)) at ≡ false
    by false e = e
    by true e = absurd (cc (tests_fall key at xs ordered i k x (get_or xs k d) l here (slice_get-get_or xs k d h) e, behind))
