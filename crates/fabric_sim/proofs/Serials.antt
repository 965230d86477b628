-- Packets in flight by rising serial numbers: one is found, moved or taken away at its index.
use Rattle.std.proofs.Common.{◌≡◌, ◌≢◌, ℕ, zero, suc, ◌<◌, ◌≤◌, true, false, List, [], ◌∷◌, inl, inr, length, get_or, refl, arith, ap, sym, ◌∙◌, subst}
use Rattle.std.specs.Prelude.{Option, Some, None, Result, Ok, Err, option_map, remove, slice_get, slice_set, if◌then◌else◌}
use Rattle.std.specs.Result.{result_ok}
use Rattle.std.specs.Ordering.{nat_cmp, ordering_index, MatchOrdering}
use Rattle.std.specs.declared.cmp.Ordering.{Ordering}
use Rattle.std.specs.declared.cmp.Ordering.TheVariants.{Less, Equal, Greater}
use Rattle.std.specs.List.Sorted.{IsBinarySearchResult, IsSearchInRange, IsNonDecreasingBy}
use Rattle.std.proofs.lemmas.Bool.{cond-true, cond-false, not_from_true, not_from_false, eq-eqb, ne_eqb, cases_lt}
use Rattle.std.proofs.lemmas.Cmp.{ranked}
use Rattle.std.proofs.lemmas.Option.{slice_get_within, get_or_from_slice_get, slice_get_cases}
use Rattle.fabric_sim.specs.declared.flight.Flight.{Flight}
use Rattle.fabric_sim.specs.Flights.{AreRising, is_numbered, flight_with, without_flight, with_moved, IsFlightAt}
use Rattle.fabric_sim.specs.Flights.{Finds}

-- by rising numbers --------------------------------------------------------------------

-- each is above a number
abbrev pub AreAbove : ℕ → List Flight → Type 0
AreAbove serial flights = (k : ℕ) (d : Flight) → k < length flights → serial < (get_or flights k d).serial

pub rising-head : (x : Flight) (xs : List Flight) → AreRising (x ∷ xs) → AreAbove x.serial xs
rising-head x xs rising k d h = rising 0 (suc k) d (omega arith) (omega arith)

pub rising-tail : (x : Flight) (xs : List Flight) → AreRising (x ∷ xs) → AreRising xs
rising-tail x xs rising i j d h k = rising (suc i) (suc j) d (omega arith) (omega arith)

above-head : (serial : ℕ) (x : Flight) (xs : List Flight) → AreAbove serial (x ∷ xs) → serial < x.serial
above-head serial x xs above = above 0 x (omega arith)

above-tail : (serial : ℕ) (x : Flight) (xs : List Flight) → AreAbove serial (x ∷ xs) → AreAbove serial xs
above-tail serial x xs above k d h = above (suc k) d (omega arith)

-- the first is below each later one
below-later : (x f : Flight) (xs : List Flight) (i : ℕ) → AreRising (x ∷ xs) → slice_get xs i ≡ Some f → x.serial < f.serial
below-later x f xs i rising at =
    let within : i < length xs = slice_get_within xs i f at in
    let P : Flight → Type 0 = λ y. x.serial < y.serial in
    subst P (get_or_from_slice_get xs i f f at) (rising-head x xs rising i f within)

numbered-same : (x f : Flight) → x.serial ≡ f.serial → is_numbered f.serial x ≡ true
numbered-same x f e = eq-eqb _ _ e

numbered-other : (x : Flight) (serial : ℕ) → x.serial ≢ serial → is_numbered serial x ≡ false
numbered-other x serial ne = ne_eqb _ _ ne

-- found ------------------------------------------------------------------------------

pub found_at : (flights : List Flight) (i : ℕ) (f : Flight) → AreRising flights → slice_get flights i ≡ Some f → flight_with flights f.serial ≡ Some f
found_at [] i f rising at = cc
found_at (x ∷ xs) zero f rising at =
    let e : x ≡ f = cc in
    cond-true _ _ _ (numbered-same x f (ap (λ y. y.serial) e)) ∙ at
found_at (x ∷ xs) (suc i) f rising at =
    let below : x.serial < f.serial = below-later x f xs i rising at in
    cond-false _ _ _ (numbered-other x f.serial (λ e. omega arith)) ∙ found_at xs i f (rising-tail x xs rising) at

-- no packet has the number
abbrev pub HasNone : ℕ → List Flight → Type 0
HasNone serial flights = (k : ℕ) (d : Flight) → k < length flights → (get_or flights k d).serial ≢ serial

pub found_none : (flights : List Flight) (serial : ℕ) → HasNone serial flights → flight_with flights serial ≡ None
found_none [] serial none = refl
found_none (x ∷ xs) serial none =
    cond-false _ _ _ (numbered-other x serial (none 0 x (omega arith)))
    ∙ found_none xs serial (λ k d h. none (suc k) d (omega arith))

-- taken away ----------------------------------------------------------------------------

without-above : (serial : ℕ) (flights : List Flight) → AreAbove serial flights → without_flight flights serial ≡ flights
without-above serial [] above = refl
without-above serial (x ∷ xs) above =
    let over : serial < x.serial = above-head serial x xs above in
    cond-true _ _ _ (not_from_false _ (numbered-other x serial (λ e. omega arith)))
    ∙ ap (λ rest. x ∷ rest) (without-above serial xs (above-tail serial x xs above))

pub without_at : (flights : List Flight) (i : ℕ) (f : Flight) → AreRising flights → slice_get flights i ≡ Some f → without_flight flights f.serial
    ≡ remove flights i
without_at [] i f rising at = cc
without_at (x ∷ xs) zero f rising at =
    let e : x ≡ f = cc in
    let n : x.serial ≡ f.serial = ap (λ y. y.serial) e in
    cond-false _ _ _ (not_from_true _ (numbered-same x f n))
    ∙ without-above f.serial xs (λ k d h. let over = rising-head x xs rising k d h in omega arith)
without_at (x ∷ xs) (suc i) f rising at =
    let below : x.serial < f.serial = below-later x f xs i rising at in
    cond-true _ _ _ (not_from_false _ (numbered-other x f.serial (λ e. omega arith)))
    ∙ ap (λ rest. x ∷ rest) (without_at xs i f (rising-tail x xs rising) at)

-- moved -----------------------------------------------------------------------------

moved-above : (moved : Flight) (flights : List Flight) → AreAbove moved.serial flights → with_moved flights moved ≡ flights
moved-above moved [] above = refl
moved-above moved (x ∷ xs) above =
    let over : moved.serial < x.serial = above-head moved.serial x xs above in
    let here : (if is_numbered moved.serial x then moved else x) ≡ x = cond-false _ _ _ (numbered-other x moved.serial (λ e. omega arith)) in
    let rest : with_moved xs moved ≡ xs = moved-above moved xs (above-tail moved.serial x xs above) in cc

pub moved_at : (flights : List Flight) (i : ℕ) (moved f : Flight) → AreRising flights → slice_get flights i ≡ Some f → f.serial ≡ moved.serial
    → with_moved flights moved ≡ slice_set flights i moved
moved_at [] i moved f rising at same = cc
moved_at (x ∷ xs) zero moved f rising at same =
    let e : x ≡ f = cc in
    let n : x.serial ≡ moved.serial = ap (λ y. y.serial) e ∙ same in
    let here : (if is_numbered moved.serial x then moved else x) ≡ moved = cond-true _ _ _ (numbered-same x moved n) in
    let rest : with_moved xs moved ≡ xs = moved-above moved xs (λ k d h. let over = rising-head x xs rising k d h in omega arith) in cc
moved_at (x ∷ xs) (suc i) moved f rising at same =
    let below : x.serial < f.serial = below-later x f xs i rising at in
    let here : (if is_numbered moved.serial x then moved else x) ≡ x = cond-false _ _ _ (numbered-other x moved.serial (λ e. omega arith)) in
    let rest : with_moved xs moved ≡ slice_set xs i moved = moved_at xs i moved f (rising-tail x xs rising) at same in cc

-- at an index ----------------------------------------------------------------------------

-- the packet at an index
pub record AtIndex (flights : List Flight) (i serial : ℕ) : Type 0 where
  pub flight : Flight
  pub at : slice_get flights i ≡ Some flight
  pub within : i < length flights
  pub number : flight.serial ≡ serial

pub at_index : (flights : List Flight) (i serial : ℕ) → IsFlightAt flights i serial → AtIndex flights i serial
at_index flights i serial h = by (slice_get flights i) refl h
  where
    by : (m : Option Flight) → slice_get flights i ≡ m → option_map (λ f. f.serial) m ≡ Some serial → AtIndex flights i serial
    by None e h = cc
    by (Some f) e h = record { flight = f; at = e; within = slice_get_within flights i f e; number = cc }

-- no packet before it has its number
none_before : (flights : List Flight) (i : ℕ) (f : Flight) → AreRising flights → slice_get flights i ≡ Some f
    → (j : ℕ) → j < i → IsFlightAt flights j f.serial → ⊥
none_before flights i f rising at j before same =
    let there = at_index flights j f.serial same in
    let within : i < length flights = slice_get_within flights i f at in
    let mine : get_or flights i f ≡ f = get_or_from_slice_get flights i f f at in
    let its : get_or flights j f ≡ there.flight = get_or_from_slice_get flights j there.flight f there.at in
    let below : (get_or flights j f).serial < (get_or flights i f).serial = rising j i f before within in
    omega (arith, below, there.number, ap (λ (y : Flight). y.serial) mine, ap (λ (y : Flight). y.serial) its)

-- an index has the packet of its number
pub finds_at : (flights : List Flight) (i : ℕ) (f : Flight) → AreRising flights → slice_get flights i ≡ Some f → Finds flights f.serial (Some i)
finds_at flights i f rising at = (ap (option_map (λ y. y.serial)) at, at ∙ sym (found_at flights i f rising at), none_before flights i f rising at)

-- a search -----------------------------------------------------------------------------

-- what a comparison says of two numbers
lower : (a b : ℕ) → nat_cmp a b ≡ Less → a < b
lower a b e = by (nat_cmp a b) e (ranked a b _ refl)
  where
    by : (r : Ordering) → r ≡ Less → MatchOrdering r (a < b) (a ≡ b) (b < a) → a < b
    by Less e h = h
    by Equal e h = cc
    by Greater e h = cc

upper : (a b : ℕ) → nat_cmp a b ≡ Greater → b < a
upper a b e = by (nat_cmp a b) e (ranked a b _ refl)
  where
    by : (r : Ordering) → r ≡ Greater → MatchOrdering r (a < b) (a ≡ b) (b < a) → b < a
    by Less e h = cc
    by Equal e h = cc
    by Greater e h = h

level : (a b : ℕ) → nat_cmp a b ≡ Equal → a ≡ b
level a b e = by (nat_cmp a b) e (ranked a b _ refl)
  where
    by : (r : Ordering) → r ≡ Equal → MatchOrdering r (a < b) (a ≡ b) (b < a) → a ≡ b
    by Less e h = cc
    by Equal e h = h
    by Greater e h = cc

-- a greater number compares no lower
ranks_rise : (a b serial : ℕ) → a ≤ b → ordering_index (nat_cmp a serial) ≤ ordering_index (nat_cmp b serial)
ranks_rise a b serial le = by (nat_cmp a serial) (nat_cmp b serial) (ranked a serial _ refl) (ranked b serial _ refl)
  where
    by : (r t : Ordering) → MatchOrdering r (a < serial) (a ≡ serial) (serial < a) → MatchOrdering t (b < serial) (b ≡ serial) (serial < b) → ordering_index r
        ≤ ordering_index t
    by Less Less h k = omega arith
    by Less Equal h k = omega arith
    by Less Greater h k = omega arith
    by Equal Less h k = absurd (omega arith)
    by Equal Equal h k = omega arith
    by Equal Greater h k = omega arith
    by Greater Less h k = absurd (omega arith)
    by Greater Equal h k = absurd (omega arith)
    by Greater Greater h k = omega arith

rising-ranks : (flights : List Flight) (serial : ℕ) → AreRising flights → IsNonDecreasingBy (λ f. ordering_index (nat_cmp f.serial serial)) flights
rising-ranks flights serial rising i j d le within =
    elim (cases_lt i j) [
      | inl lt ↦ let below : (get_or flights i d).serial < (get_or flights j d).serial = rising i j d lt within in
          ranks_rise (get_or flights i d).serial (get_or flights j d).serial serial (omega arith)
      | inr ge ↦ let same : i ≡ j = omega arith in
          subst (λ k. ordering_index (nat_cmp (get_or flights i d).serial serial)
          ≤ ordering_index (nat_cmp (get_or flights k d).serial serial)) same (omega arith)
    ]

-- what a search by serial number answers
pub searched : (flights : List Flight) (serial : ℕ) (r : Result ℕ ℕ) → AreRising flights → IsSearchInRange r (length flights)
    → IsBinarySearchResult (λ f. nat_cmp f.serial serial) flights r → Finds flights serial (result_ok r)
searched flights serial (Ok i) rising within found =
    elim (slice_get_cases flights i).1 [
      | inl h ↦ let f : Flight = h.0 in
          let at : slice_get flights i ≡ Some f = h.2 in
          let same : nat_cmp (get_or flights i f).serial serial ≡ Equal = found f in
          let n : f.serial ≡ serial = ap (λ y. y.serial) (sym h.3) ∙ level _ _ same in
          subst (λ n. Finds flights n (Some i)) n (finds_at flights i f rising at)
      | inr h ↦ let past : length flights ≤ i = h.0 in absurd (omega arith)
    ]
searched flights serial (Err i) rising within found =
    let parts = found (rising-ranks flights serial rising) in
    found_none flights serial (λ k d h e.
    elim (cases_lt k i) [
      | inl lt ↦ let below : (get_or flights k d).serial < serial = lower _ _ (parts.0 k d (omega arith) lt) in absurd (omega arith)
      | inr ge ↦ let above : serial < (get_or flights k d).serial = upper _ _ (parts.1 k d ge h) in absurd (omega arith)
    ])
