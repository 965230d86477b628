-- Packets in flight by their serial numbers, as other packets come and go.
use Rattle.std.proofs.Common.{◌≡◌, ℕ, ◌+◌, ◌<◌, ◌≤◌, Bool, true, false, cond, List, [], ◌∷◌, ◌++◌, not, ◌==◌, refl, sym, ap, ◌∙◌, arith}
use Rattle.std.proofs.lemmas.Bool.{eqb-true, eq-eqb, ne_eqb}
use Rattle.std.proofs.lemmas.Option.{same_Some}
use Rattle.std.specs.Prelude.{Option, Some, None}
use Rattle.fabric_sim.specs.declared.flight.Flight.{Flight}
use Rattle.fabric_sim.specs.Flights.{is_numbered, flight_with, without_flight, with_moved}

-- by cases of a test that a list's first flight is asked
by_first : (b : Bool) (P : Option Flight → Option Flight → Type 0) (x y : Flight) (m n : Option Flight) → P (Some x) (Some y) → P m n
    → P (cond b (Some x) m) (cond b (Some y) n)
by_first true P x y m n h k = h
by_first false P x y m n h k = k

abbrev IsAsFound : Option Flight → Option Flight → Type 0
IsAsFound m n = (f : Flight) → m ≡ Some f → n ≡ Some f

-- one more at the end
pub found_before : (flights : List Flight) (more : Flight) (n : ℕ) (f : Flight) → flight_with flights n ≡ Some f
    → flight_with (flights ++ more ∷ []) n ≡ Some f
found_before [] more n f h = absurd (cc)
found_before (x ∷ flights) more n f h =
    by_first (is_numbered n x) IsAsFound x x (flight_with flights n) (flight_with (flights ++ more ∷ []) n) (λ g e. e) (found_before flights more n) f h

-- serial numbers that were given
abbrev pub AreGiven : ℕ → List Flight → Type 0
AreGiven next [] = Unit {0}
AreGiven next (x ∷ flights) = (x.serial < next) × AreGiven next flights

pub found_last : (flights : List Flight) (more : Flight) → AreGiven more.serial flights → flight_with (flights ++ more ∷ []) more.serial ≡ Some more
found_last [] more h = ap (λ b. cond b (Some more) None) (eq-eqb more.serial more.serial refl)
found_last (x ∷ flights) more h =
    ap (λ b. cond b (Some x) (flight_with (flights ++ more ∷ []) more.serial)) (ne_eqb x.serial more.serial (λ e. omega (arith, e, h.0)))
    ∙ found_last flights more h.1

-- a flight of another number gone
pub found_without : (flights : List Flight) (gone n : ℕ) → (gone ≡ n → ⊥) → flight_with (without_flight flights gone) n ≡ flight_with flights n
found_without [] gone n apart = refl
found_without (x ∷ flights) gone n apart = by_test (x.serial == gone) refl (found_without flights gone n apart)
  where
    by_test : (b : Bool) → (x.serial == gone) ≡ b → flight_with (without_flight flights gone) n ≡ flight_with flights n
        → flight_with (without_flight (x ∷ flights) gone) n ≡ flight_with (x ∷ flights) n
    by_test true e rest =
        ap (λ b. flight_with (cond (not b) (x ∷ without_flight flights gone) (without_flight flights gone)) n) e
        ∙ rest
        ∙ sym (ap (λ b. cond b (Some x) (flight_with flights n)) (ne_eqb x.serial n (λ k. apart (sym (eqb-true x.serial gone e) ∙ k))))
    by_test false e rest =
        ap (λ b. flight_with (cond (not b) (x ∷ without_flight flights gone) (without_flight flights gone)) n) e
        ∙ ap (λ m. cond (x.serial == n) (Some x) m) rest

-- a flight elsewhere
pub found_moved : (flights : List Flight) (moved f : Flight) → flight_with flights moved.serial ≡ Some f
    → flight_with (with_moved flights moved) moved.serial ≡ Some moved
found_moved [] moved f h = absurd (cc)
found_moved (x ∷ flights) moved f h = by_test (x.serial == moved.serial) refl (found_moved flights moved f)
  where
    first : Bool → Flight
    first b = cond b moved x

    by_test : (b : Bool) → (x.serial == moved.serial) ≡ b
        → (flight_with flights moved.serial ≡ Some f → flight_with (with_moved flights moved) moved.serial ≡ Some moved)
        → flight_with (with_moved (x ∷ flights) moved) moved.serial ≡ Some moved
    by_test true e rest =
        ap (λ (y : Flight). cond (y.serial == moved.serial) (Some y) (flight_with (with_moved flights moved) moved.serial)) (ap (λ b. cond b moved x) e)
        ∙ ap (λ b. cond b (Some moved) (flight_with (with_moved flights moved) moved.serial)) (eq-eqb moved.serial moved.serial refl)
    by_test false e rest =
        ap (λ (y : Flight). cond (y.serial == moved.serial) (Some y) (flight_with (with_moved flights moved) moved.serial)) (ap (λ b. cond b moved x) e)
        ∙ ap (λ b. cond b (Some x) (flight_with (with_moved flights moved) moved.serial)) e
        ∙ rest (sym (ap (λ b. cond b (Some x) (flight_with flights moved.serial)) e) ∙ h)

-- a flight of another number elsewhere
pub found_beside_moved : (flights : List Flight) (moved : Flight) (n : ℕ) → (moved.serial ≡ n → ⊥)
    → flight_with (with_moved flights moved) n ≡ flight_with flights n
found_beside_moved [] moved n apart = refl
found_beside_moved (x ∷ flights) moved n apart = by_test (x.serial == moved.serial) refl (found_beside_moved flights moved n apart)
  where
    by_test : (b : Bool) → (x.serial == moved.serial) ≡ b → flight_with (with_moved flights moved) n ≡ flight_with flights n
        → flight_with (with_moved (x ∷ flights) moved) n ≡ flight_with (x ∷ flights) n
    by_test true e rest =
        ap (λ (y : Flight). cond (y.serial == n) (Some y) (flight_with (with_moved flights moved) n)) (ap (λ b. cond b moved x) e)
        ∙ ap (λ b. cond b (Some moved) (flight_with (with_moved flights moved) n)) (ne_eqb moved.serial n apart)
        ∙ rest
        ∙ sym (ap (λ b. cond b (Some x) (flight_with flights n)) (ne_eqb x.serial n (λ k. apart (sym (eqb-true x.serial moved.serial e) ∙ k))))
    by_test false e rest =
        ap (λ (y : Flight). cond (y.serial == n) (Some y) (flight_with (with_moved flights moved) n)) (ap (λ b. cond b moved x) e)
        ∙ ap (λ m. cond (x.serial == n) (Some x) m) rest

-- numbers that were given stay so ------------------------------------------------------------

pub given_later : (flights : List Flight) (next later : ℕ) → next ≤ later → AreGiven next flights → AreGiven later flights
given_later [] next later h g = tt
given_later (x ∷ flights) next later h g = (omega (arith, h, g.0), given_later flights next later h g.1)

pub given_one_more : (flights : List Flight) (more : Flight) → AreGiven more.serial flights → AreGiven (more.serial + 1) (flights ++ more ∷ [])
given_one_more [] more g = (omega arith, tt)
given_one_more (x ∷ flights) more g = (omega (arith, g.0), given_one_more flights more g.1)

pub given_without : (flights : List Flight) (gone next : ℕ) → AreGiven next flights → AreGiven next (without_flight flights gone)
given_without [] gone next g = tt
given_without (x ∷ flights) gone next g = by_test (not (x.serial == gone)) (given_without flights gone next g.1)
  where
    by_test : (b : Bool) → AreGiven next (without_flight flights gone)
        → AreGiven next (cond b (x ∷ without_flight flights gone) (without_flight flights gone))
    by_test true rest = (g.0, rest)
    by_test false rest = rest

pub given_moved : (flights : List Flight) (moved : Flight) (next : ℕ) → moved.serial < next → AreGiven next flights → AreGiven next (with_moved flights moved)
given_moved [] moved next h g = tt
given_moved (x ∷ flights) moved next h g = (by_test (x.serial == moved.serial), given_moved flights moved next h g.1)
  where
    by_test : (b : Bool) → (cond b moved x).serial < next
    by_test true = h
    by_test false = g.0

pub found_given : (flights : List Flight) (n next : ℕ) (f : Flight) → AreGiven next flights → flight_with flights n ≡ Some f → (f.serial ≡ n) × (n < next)
found_given [] n next f g h = absurd (cc)
found_given (x ∷ flights) n next f g h = by_test (x.serial == n) refl (found_given flights n next f g.1) h
  where
    by_test : (b : Bool) → (x.serial == n) ≡ b → (flight_with flights n ≡ Some f → (f.serial ≡ n) × (n < next))
        → cond b (Some x) (flight_with flights n) ≡ Some f → (f.serial ≡ n) × (n < next)
    by_test true e rest k =
        let same : x.serial ≡ f.serial = ap (λ (y : Flight). y.serial) (same_Some x f k) in
        let is = eqb-true x.serial n e in
        (sym same ∙ is, omega (arith, is, g.0))
    by_test false e rest k = rest k
