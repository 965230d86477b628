-- Requests in ascending order of their numbers: the index of a request by its number, and the requests without it.
use Rattle.std.proofs.Common.{◌≡◌, ◌≢◌, ℕ, zero, suc, ◌+◌, ◌<◌, ◌≤◌, Bool, true, false, List, [], ◌∷◌, ◌++◌, append-nil}
use Rattle.std.proofs.Common.{inl, inr, length, get_or, refl, arith, ap, sym, ◌∙◌, subst}
use Rattle.std.specs.Prelude.{Some, None, ◌^◌, find, remove, slice_get, nat_lt, ◌==◌}
use Rattle.std.specs.List.{AllByRecursion}
use Rattle.std.specs.List.Sorted.{IsPartitionedBy}
use Rattle.std.proofs.lemmas.Bool.{cond-true, cond-false, not_from_true, not_from_false, eq-eqb, ne_eqb, cases_lt}
use Rattle.std.proofs.lemmas.Bool.{lt-ltb, ltb-true, ltb-false}
use Rattle.std.proofs.lemmas.Option.{slice_get-get_or}
use Rattle.request_table.specs.Order.{AreOrdered, IsIndex}
use Rattle.request_table.specs.Numbers.{AreNumbered, AreRising, IsIndexFor, without_number}
use Rattle.request_table.proofs.Indices.{all_at, all_map, found_in_first, if_passes, ordered_at, some_is}

-- each number is below that of a later one
abbrev pub AreBelow : {T : Type 0} → (T → ℕ) → List T → Type 0
AreBelow number rs = AreOrdered (λ a b. number a < number b) rs

module _ {T : Type 0} (number : T → ℕ) where
  -- chains --------------------------------------------------------------------------------------

  pub rising_least : (a b : ℕ) (rs : List T) (next : ℕ) → a ≤ b → AreRising number b rs next → AreRising number a rs next
  rising_least a b [] next le rising = omega arith
  rising_least a b (r ∷ rs) next le rising = (omega (arith, rising.0), rising.1)

  pub rising_below : (least : ℕ) (rs : List T) (next : ℕ) → AreRising number least rs next → least ≤ next
  rising_below least [] next rising = rising
  rising_below least (r ∷ rs) next rising =
      let rest = rising_below (number r + 1) rs next rising.1 in omega (arith, rest, rising.0)

  -- so there are no more of them than numbers
  pub rising_length : (least : ℕ) (rs : List T) (next : ℕ) → AreRising number least rs next → least + length rs ≤ next
  rising_length least [] next rising = omega (arith, rising)
  rising_length least (r ∷ rs) next rising =
      let rest = rising_length (number r + 1) rs next rising.1 in omega (arith, rest, rising.0)

  rising_all : (least : ℕ) (rs : List T) (next : ℕ) → AreRising number least rs next → AllByRecursion (λ r. least ≤ number r) rs
  rising_all least [] next rising = tt
  rising_all least (r ∷ rs) next rising =
      let later : AllByRecursion (λ x. least ≤ number x) rs =
      all_map (λ x. number r + 1 ≤ number x) (λ x. least ≤ number x) (λ x h. omega (arith, rising.0)) rs
      (rising_all (number r + 1) rs next rising.1) in
      (rising.0, later)

  -- each number is below all later ones
  pub rising_ordered : (least : ℕ) (rs : List T) (next : ℕ) → AreRising number least rs next → AreBelow number rs
  rising_ordered least [] next rising = tt
  rising_ordered least (r ∷ rs) next rising =
      let above : AllByRecursion (λ x. number r < number x) rs =
      all_map (λ x. number r + 1 ≤ number x) (λ x. number r < number x) (λ x h. omega arith) rs
      (rising_all (number r + 1) rs next rising.1) in
      (above, rising_ordered (number r + 1) rs next rising.1)

  -- more at the end, which rise on from the next number
  pub rising_more : (least : ℕ) (rs more : List T) (next then : ℕ) → AreRising number least rs next
      → AreRising number next more then → AreRising number least (rs ++ more) then
  rising_more least [] more next then rising later = rising_least least next more then rising later
  rising_more least (r ∷ rs) more next then rising later = (rising.0, rising_more (number r + 1) rs more next then rising.1 later)

  -- one more at the end
  pub rising_pushed : (least : ℕ) (rs : List T) (next : ℕ) (r : T) → AreRising number least rs next → number r ≡ next
      → AreRising number least (rs ++ r ∷ []) (next + 1)
  rising_pushed least rs next r rising e =
      rising_more least rs (r ∷ []) next (next + 1) rising (omega (arith, e), omega (arith, e))

  -- one less
  pub rising_without : (least : ℕ) (rs : List T) (next i : ℕ) → AreRising number least rs next → AreRising number least (remove rs i) next
  rising_without least [] next zero rising = rising
  rising_without least [] next (suc i) rising = rising
  rising_without least (r ∷ rs) next zero rising = rising_least least (number r + 1) rs next (omega (arith, rising.0)) rising.1
  rising_without least (r ∷ rs) next (suc i) rising = (rising.0, rising_without (number r + 1) rs next i rising.1)

  -- by number -----------------------------------------------------------------------------------

  -- once one is not below the number that is looked for, no later one is
  pub numbers_part : (n least : ℕ) (rs : List T) (next : ℕ) → AreRising number least rs next → IsPartitionedBy (λ r. nat_lt (number r) n) rs
  numbers_part n least rs next rising i j d le within before =
      elim (cases_lt i j) [
        | inl lt ↦ let up : number (get_or rs i d) < number (get_or rs j d) =
            ordered_at (λ a b. number a < number b) rs i j (get_or rs i d) (get_or rs j d) (rising_ordered least rs next rising) lt
            (slice_get-get_or rs i d (omega arith)) (slice_get-get_or rs j d within) in
            let low : number (get_or rs j d) < n = ltb-true _ _ before in
            lt-ltb _ _ (omega (arith, up, low))
        | inr ge ↦ let same : i ≡ j = omega arith in subst (λ (k : ℕ). nat_lt (number (get_or rs k d)) n ≡ true) (sym same) before
      ]

  -- What only a request of this number can be is found at the index of the number, if it is there. The list may go on
  -- behind what is looked through.
  pub located_first : (n : ℕ) (test : T → Bool) (xs ys : List T) (i : ℕ) → ((r : T) → number r ≢ n → test r ≡ false)
      → AreBelow number xs → IsIndex (λ r. nat_lt (number r) n) (xs ++ ys) i → find test xs ≡ if_passes test (slice_get xs i)
  located_first n test xs ys i only ordered index =
      found_in_first (λ a b. number a < number b) (λ r. nat_lt (number r) n) test
      (λ r e. let low : number r < n = ltb-true _ _ e in only r (λ same. omega (arith, low, same)))
      (λ r q e f up. let ge : n ≤ number r = ltb-false _ _ e in only q (λ same. omega (arith, ge, up, same)))
      xs ys i ordered index

  pub located : (n : ℕ) (test : T → Bool) (rs : List T) (next i : ℕ) → ((r : T) → number r ≢ n → test r ≡ false)
      → AreRising number 0 rs next → IsIndex (λ r. nat_lt (number r) n) rs i → find test rs ≡ if_passes test (slice_get rs i)
  located n test rs next i only rising index =
      located_first n test rs [] i only (rising_ordered 0 rs next rising)
      (subst (λ (l : List T). IsIndex (λ r. nat_lt (number r) n) l i) (sym (append-nil rs)) index)

  pub only_number : (n : ℕ) (r : T) → number r ≢ n → (number r == n) ≡ false
  only_number n r ne = ne_eqb _ _ ne

  -- one that has ended ----------------------------------------------------------------------------

  is_other : (r : T) (n : ℕ) → number r ≢ n → (number r == n) ≡ false
  is_other r n ne = ne_eqb _ _ ne

  without_above : (n : ℕ) (rs : List T) → AllByRecursion (λ r. n < number r) rs → without_number number n rs ≡ rs
  without_above n [] above = refl
  without_above n (r ∷ rs) above =
      let up : n < number r = above.0 in
      cond-true _ _ _ (not_from_false _ (is_other r n (λ e. omega (arith, up, e)))) ∙ ap (λ rest. r ∷ rest) (without_above n rs above.1)

  pub without_at : (rs : List T) (i : ℕ) (r : T) → AreBelow number rs → slice_get rs i ≡ Some r
      → without_number number (number r) rs ≡ remove rs i
  without_at [] i r ordered at = absurd (cc)
  without_at (q ∷ rs) zero r ordered at =
      let e : q ≡ r = some_is q r at in
      cond-false _ _ _ (not_from_true _ (eq-eqb _ _ (ap number e)))
      ∙ without_above (number r) rs (subst (λ (z : T). AllByRecursion (λ y. number z < number y) rs) e ordered.0)
  without_at (q ∷ rs) (suc i) r ordered at =
      let up : number q < number r = all_at (λ y. number q < number y) rs i r ordered.0 at in
      cond-true _ _ _ (not_from_false _ (is_other q (number r) (λ e. omega (arith, up, e))))
      ∙ ap (λ rest. q ∷ rest) (without_at rs i r ordered.1 at)

  pub numbered_without : (rs : List T) (next i : ℕ) → AreNumbered number rs next → AreNumbered number (remove rs i) next
  numbered_without rs next i h = record { rising = rising_without 0 rs next i h.rising; bound = h.bound }

  pub numbered_pushed : (rs : List T) (next : ℕ) (r : T) → AreNumbered number rs next → number r ≡ next → next < 2 ^ 32
      → AreNumbered number (rs ++ r ∷ []) (next + 1)
  numbered_pushed rs next r h e spare = record { rising = rising_pushed 0 rs next r h.rising e; bound = omega (arith, spare) }

-- what is found at the index --------------------------------------------------------------------------

module _ {T : Type 0} (test : T → Bool) (rs : List T) (i : ℕ) (e : find test rs ≡ if_passes test (slice_get rs i)) where
  pub index_none : slice_get rs i ≡ None → IsIndexFor (find test rs) rs None
  index_none at = e ∙ ap (if_passes test) at

  pub index_other : (r : T) → slice_get rs i ≡ Some r → test r ≡ false → IsIndexFor (find test rs) rs None
  index_other r at fails = e ∙ ap (if_passes test) at ∙ cond-false _ _ _ fails

  pub index_found : (r : T) → slice_get rs i ≡ Some r → test r ≡ true → IsIndexFor (find test rs) rs (Some i)
  index_found r at passes = (r, at, e ∙ ap (if_passes test) at ∙ cond-true _ _ _ passes)
