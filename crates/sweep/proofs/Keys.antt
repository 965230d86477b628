-- The order of GUIDs and ports, as facts on numbers.
use Rattle.std.proofs.Common.{◌≡◌, ℕ, ◌<◌, ◌≤◌, true, false, ◌&&◌, ◌⊎◌, inl, inr, arith}
use Rattle.std.specs.Prelude.{◌==◌}
use Rattle.std.proofs.lemmas.Bool.{ne_eqb, eqb-false, cases_lt}
use Rattle.std.proofs.lemmas.Bool.Decides.{nat_tests}
use Rattle.sweep.specs.Order.{is_before}

-- the first GUID is less, or the GUIDs are one and the first port is less
pub before_parts : (a b : ℕ × ℕ) → is_before a b ≡ true → (a.0 < b.0) ⊎ ((a.0 ≡ b.0) × (a.1 < b.1))
before_parts a b e =
    elim (cases_lt a.0 b.0) [
      | inl lt ↦ inl lt
      | inr ge ↦ inr (search ge)
    ]
  where
    search : b.0 ≤ a.0 → (a.0 ≡ b.0) × (a.1 < b.1)
    search ge = (grind (arith, nat_tests), grind (arith, nat_tests))

pub not_before_parts : (a b : ℕ × ℕ) → is_before a b ≡ false → (b.0 < a.0) ⊎ ((a.0 ≡ b.0) × (b.1 ≤ a.1))
not_before_parts a b e =
    elim (cases_lt b.0 a.0) [
      | inl lt ↦ inl lt
      | inr ge ↦ inr (rest ge)
    ]
  where
    rest : a.0 ≤ b.0 → (a.0 ≡ b.0) × (b.1 ≤ a.1)
    rest ge = (grind (arith, nat_tests), grind (arith, nat_tests))

pub before_less : (a b : ℕ × ℕ) → a.0 < b.0 → is_before a b ≡ true
before_less a b lt = grind (arith, nat_tests)

pub before_port : (a b : ℕ × ℕ) → a.0 ≡ b.0 → a.1 < b.1 → is_before a b ≡ true
before_port a b e lt = grind (arith, nat_tests)

pub before_trans : (a b c : ℕ × ℕ) → is_before a b ≡ true → is_before b c ≡ true → is_before a c ≡ true
before_trans a b c p q =
    elim (before_parts a b p) [
      | inl x ↦ elim (before_parts b c q) [
        | inl y ↦ before_less a c (omega (arith, x, y))
        | inr y ↦ before_less a c (omega (arith, x, y))
      ]
      | inr x ↦ elim (before_parts b c q) [
        | inl y ↦ before_less a c (omega (arith, x, y))
        | inr y ↦ before_port a c (omega (arith, x, y)) (omega (arith, x, y))
      ]
    ]

-- neither is before the other
pub level_same : (a b : ℕ × ℕ) → is_before a b ≡ false → is_before b a ≡ false → (a.0 ≡ b.0) × (a.1 ≡ b.1)
level_same a b p q =
    elim (not_before_parts a b p) [
      | inl x ↦ absurd (by_less x)
      | inr x ↦ elim (not_before_parts b a q) [
        | inl y ↦ absurd (omega (arith, x, y))
        | inr y ↦ (x.0, omega (arith, x, y))
      ]
    ]
  where
    by_less : b.0 < a.0 → ⊥
    by_less x =
        elim (not_before_parts b a q) [
          | inl y ↦ omega (arith, x, y)
          | inr y ↦ omega (arith, x, y)
        ]

pub not_before_same : (a b : ℕ × ℕ) → a.0 ≡ b.0 → a.1 ≡ b.1 → is_before a b ≡ false
not_before_same a b e f = grind (arith, nat_tests)

-- a test of both numbers
pub same_key : (a : ℕ × ℕ) (guid port : ℕ) → a.0 ≡ guid → a.1 ≡ port → (a.0 == guid && a.1 == port) ≡ true
same_key a guid port e f = grind (arith, nat_tests)

pub other_key : (a : ℕ × ℕ) (guid port : ℕ) → is_before a (guid, port) ≡ true → (a.0 == guid && a.1 == port) ≡ false
other_key a guid port e =
    elim (before_parts a (guid, port) e) [
      | inl x ↦ grind (arith, nat_tests)
      | inr x ↦ grind (arith, nat_tests)
    ]

pub later_key : (a : ℕ × ℕ) (guid port : ℕ) → is_before (guid, port) a ≡ true → (a.0 == guid && a.1 == port) ≡ false
later_key a guid port e =
    elim (before_parts (guid, port) a e) [
      | inl x ↦ grind (arith, nat_tests)
      | inr x ↦ grind (arith, nat_tests)
    ]

-- below a GUID's least port are lesser GUIDs alone
pub first_other : (a : ℕ × ℕ) (guid : ℕ) → is_before a (guid, 0) ≡ true → (a.0 == guid) ≡ false
first_other a guid e =
    elim (before_parts a (guid, 0) e) [
      | inl x ↦ ne_eqb _ _ (λ n. omega (arith, x, n))
      | inr x ↦ absurd (omega (arith, x))
    ]

-- and behind a greater GUID there are greater ones alone
pub first_later : (a b : ℕ × ℕ) (guid : ℕ) → is_before a (guid, 0) ≡ false → (a.0 == guid) ≡ false → is_before a b ≡ true → (b.0 == guid) ≡ false
first_later a b guid e f r =
    elim (not_before_parts a (guid, 0) e) [
      | inl x ↦ elim (before_parts a b r) [
        | inl y ↦ ne_eqb _ _ (λ n. omega (arith, x, y, n))
        | inr y ↦ ne_eqb _ _ (λ n. omega (arith, x, y, n))
      ]
      | inr x ↦ absurd (eqb-false _ _ f x.0)
    ]
