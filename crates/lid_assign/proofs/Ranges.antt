-- Ranges: their tests agree with the statements, and a range at a multiple of its width meets only one block.
use Rattle.std.proofs.Common.{◌≡◌, ◌<◌, ◌≤◌, ◌+◌, ◌/◌, ◌%◌, ◌^◌, ℕ, suc, inl, inr, refl, ap, arith, true, false, cond, ◌&&◌, ◌==◌}
use Rattle.std.proofs.lemmas.Bool.{and_parts, and_from, ltb-true, lt-ltb, leb-true, le-leb, eqb-true, eq-eqb, ne_eqb, cases_lt}
use Rattle.std.proofs.lemmas.Nat.{pow_pos}
use Rattle.std.proofs.Math.Nat.{mul-le-mul_left}
use Rattle.std.specs.Prelude.{nat_lt, nat_le}
use Rattle.subnet_view.specs.declared.end_port.EndPort.{EndPort}
use Rattle.lid_assign.specs.Ranges.{lmc_at, width_of, Range, is_in, meets, fits, IsIn, IsInBoth, Fits, RangesLaw}

-- widths ---------------------------------------------------------------------------

pub some_width : (lmc : ℕ) (e : EndPort) → 1 ≤ width_of lmc e
some_width lmc e = omega (arith, pow_pos (lmc_at lmc e))

-- with an LMC of 0 each end port has one LID
pub width_0 : (e : EndPort) → width_of 0 e ≡ 1
width_0 e = elim (e.port == 0) as (λ t. 2 ^ cond t 0 0 ≡ 1) [ true ↦ refl | false ↦ refl ]

-- a port that is not port 0 is an adapter's
pub width_wide : (lmc : ℕ) (e : EndPort) → (e.port ≡ 0 → ⊥) → width_of lmc e ≡ 2 ^ lmc
width_wide lmc e h = ap (λ t. 2 ^ cond t 0 lmc) (ne_eqb e.port 0 h)

-- the tests and the words -----------------------------------------------------------

module _ (r : Range) (n : ℕ) where
  pub in_from_test : is_in r n ≡ true → IsIn r n
  in_from_test e = let p = and_parts (nat_le r.first n) (nat_lt n (r.first + r.width)) e in (leb-true r.first n p.0, ltb-true n (r.first + r.width) p.1)

  pub test_from_in : IsIn r n → is_in r n ≡ true
  test_from_in h = and_from (nat_le r.first n) (nat_lt n (r.first + r.width)) (le-leb r.first n h.0) (lt-ltb n (r.first + r.width) h.1)

module _ (a b : Range) where
  pub meets_at : (n : ℕ) → IsIn a n → IsIn b n → meets a b ≡ true
  meets_at n h k =
      and_from (nat_lt a.first (b.first + b.width)) (nat_lt b.first (a.first + a.width)) (lt-ltb a.first (b.first + b.width) (omega (arith, h.0, k.1)))
      (lt-ltb b.first (a.first + a.width) (omega (arith, k.0, h.1)))

  pub common_number : 1 ≤ a.width → 1 ≤ b.width → meets a b ≡ true → (n : ℕ) × IsInBoth a b n
  common_number v w e =
      let p = and_parts (nat_lt a.first (b.first + b.width)) (nat_lt b.first (a.first + a.width)) e in
      let l = ltb-true a.first (b.first + b.width) p.0 in
      let m = ltb-true b.first (a.first + a.width) p.1 in
      elim (cases_lt a.first b.first) [
        | inl h ↦ (b.first, ((omega arith, m), (omega arith, omega arith)))
        | inr h ↦ (a.first, ((omega arith, omega arith), (h, l)))
      ]

pub meets_turned : (a b : Range) → meets a b ≡ true → meets b a ≡ true
meets_turned a b e =
    let p = and_parts (nat_lt a.first (b.first + b.width)) (nat_lt b.first (a.first + a.width)) e in
    and_from (nat_lt b.first (a.first + a.width)) (nat_lt a.first (b.first + b.width)) p.1 p.0

-- a range meets itself
pub meets_itself : (a : Range) → 1 ≤ a.width → meets a a ≡ true
meets_itself a w = meets_at a a a.first (omega arith, omega arith) (omega arith, omega arith)

module _ (room : ℕ) (r : Range) where
  pub fits_from_test : fits room r ≡ true → Fits room r
  fits_from_test e =
      let p = and_parts (nat_le 1 r.first) (r.first % r.width == 0 && nat_le (r.first + r.width) room) e in
      let q = and_parts (r.first % r.width == 0) (nat_le (r.first + r.width) room) p.1 in
      record { not_0 = leb-true 1 r.first p.0; aligned = eqb-true (r.first % r.width) 0 q.0; in_room = leb-true (r.first + r.width) room q.1 }

  pub test_from_fits : Fits room r → fits room r ≡ true
  test_from_fits f =
      and_from (nat_le 1 r.first) (r.first % r.width == 0 && nat_le (r.first + r.width) room) (le-leb 1 r.first f.not_0)
      (and_from (r.first % r.width == 0) (nat_le (r.first + r.width) room) (eq-eqb (r.first % r.width) 0 f.aligned) (le-leb (r.first + r.width) room f.in_room))

pub ranges_law : RangesLaw
ranges_law room n a b v w = (
  (in_from_test a n, test_from_in a n),
  (common_number a b v w, λ h. meets_at a b h.0 h.1.0 h.1.1),
  (fits_from_test room a, test_from_fits room a),
)

-- multiples ------------------------------------------------------------------------

-- two multiples of a width are one, or a width apart
pub multiples_apart : (w a b : ℕ) → 1 ≤ w → a % w ≡ 0 → b % w ≡ 0 → a < b → a + w ≤ b
multiples_apart w a b p h k l =
    elim (cases_lt (a / w) (b / w)) [
      | inl m ↦ omega (arith, mul-le-mul_left {m = suc (a / w)} {n = b / w} w (omega arith))
      | inr m ↦ absurd (omega (arith, mul-le-mul_left {m = b / w} {n = a / w} w m))
    ]
