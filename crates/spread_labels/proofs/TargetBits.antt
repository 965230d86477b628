-- Sets of targets by their bits.
use Rattle.std.proofs.Common.{◌≡◌, ◌≢◌, ◌<◌, ◌≤◌, ◌-◌, ◌*◌, ◌%◌, ◌^◌, ◌==◌, ◌&&◌, ◌||◌, ℕ, zero, suc, inl, inr, refl, sym, ap, ◌∙◌, arith, lit<, true, false, not, Bool, min, max, bit_and, bit_or, w64}
use Rattle.std.proofs.lemmas.Bool.{cases_eq, eq-eqb, eqb-true}
use Rattle.std.specs.Int.{bit_at, bit_not, trailing_zeros}
use Rattle.std.proofs.lemmas.Nat.{and_le_l}
use Rattle.spread_labels.specs.TargetSet.{has, no_targets}
use Rattle.std.proofs.lemmas.Nat.Bits.{bit_at-lt, bit_at_or, bit_at_and, bit_at_not, bit_at_set_same, bit_at_set_other, bit_at_clear_same, bit_at_clear_other, bit_at-trailing_zeros, bit_at-zero, same_from_bits_below}

module _ where
  max_flag : (x y : ℕ) → x < 2 → y < 2 → (max x y == 1) ≡ ((x == 1) || (y == 1))
  max_flag zero zero h j = refl
  max_flag zero (suc zero) h j = refl
  max_flag (suc zero) zero h j = refl
  max_flag (suc zero) (suc zero) h j = refl
  max_flag (suc (suc x)) y h j = absurd (omega (arith, h))
  max_flag zero (suc (suc y)) h j = absurd (omega (arith, j))
  max_flag (suc zero) (suc (suc y)) h j = absurd (omega (arith, j))

  min_flag : (x y : ℕ) → x < 2 → y < 2 → (min x y == 1) ≡ ((x == 1) && (y == 1))
  min_flag zero zero h j = refl
  min_flag zero (suc zero) h j = refl
  min_flag (suc zero) zero h j = refl
  min_flag (suc zero) (suc zero) h j = refl
  min_flag (suc (suc x)) y h j = absurd (omega (arith, h))
  min_flag zero (suc (suc y)) h j = absurd (omega (arith, j))
  min_flag (suc zero) (suc (suc y)) h j = absurd (omega (arith, j))

  less_flag : (y : ℕ) → y < 2 → (1 - y == 1) ≡ not (y == 1)
  less_flag zero h = refl
  less_flag (suc zero) h = refl
  less_flag (suc (suc y)) h = absurd (omega (arith, h))

pub or_bit : (a b k : ℕ) → (bit_at (bit_or a b) k == 1) ≡ ((bit_at a k == 1) || (bit_at b k == 1))
or_bit a b k = ap (λ n. n == 1) (bit_at_or a b k) ∙ max_flag (bit_at a k) (bit_at b k) (bit_at-lt a k) (bit_at-lt b k)

pub and_bit : (a b k : ℕ) → (bit_at (bit_and a b) k == 1) ≡ ((bit_at a k == 1) && (bit_at b k == 1))
and_bit a b k = ap (λ n. n == 1) (bit_at_and a b k) ∙ min_flag (bit_at a k) (bit_at b k) (bit_at-lt a k) (bit_at-lt b k)

pub without_bit : (a b k : ℕ) → b < 2 ^ 64 → k < 64 → (bit_at (bit_and a (bit_not w64 b)) k == 1) ≡ ((bit_at a k == 1) && not (bit_at b k == 1))
without_bit a b k small h =
    and_bit a (bit_not w64 b) k
    ∙ ap (λ x. (bit_at a k == 1) && x) (ap (λ n. n == 1) (bit_at_not w64 b k small h) ∙ less_flag (bit_at b k) (bit_at-lt b k))

pub with_bit : (a t k : ℕ) → t < 64 → (bit_at (bit_or a (1 * 2 ^ t % 2 ^ 64)) k == 1) ≡ ((k == t) || (bit_at a k == 1))
with_bit a t k h =
    elim (cases_eq k t) [
      | inl same ↦ ap (λ n. n == 1) (ap (bit_at (bit_or a (1 * 2 ^ t % 2 ^ 64))) same ∙ bit_at_set_same w64 a t h)
          ∙ ap (λ b. b || (bit_at a k == 1)) (sym (eq-eqb k t same))
      | inr other ↦ ap (λ n. n == 1) (bit_at_set_other w64 a t h k other) ∙ ap (λ b. b || (bit_at a k == 1)) (sym (apart k t other))
    ]
  where
    apart : (a b : ℕ) → a ≢ b → (a == b) ≡ false
    apart a b other =
        elim (a == b) as (λ r. (a == b) ≡ r → r ≡ false) [ true ↦ λ e. absurd (other (eqb-true a b e)) | false ↦ λ e. refl ] refl

pub but_bit : (a t k : ℕ) → t < 64 → k < 64 → (bit_at (bit_and a (bit_not w64 (1 * 2 ^ t % 2 ^ 64))) k == 1) ≡ ((bit_at a k == 1) && not (k == t))
but_bit a t k h l =
    elim (cases_eq k t) [
      | inl same ↦ ap (λ n. n == 1) (ap (bit_at (bit_and a (bit_not w64 (1 * 2 ^ t % 2 ^ 64)))) same ∙ bit_at_clear_same w64 a t h)
          ∙ never (bit_at a k == 1) ∙ ap (λ b. (bit_at a k == 1) && not b) (sym (eq-eqb k t same))
      | inr other ↦ ap (λ n. n == 1) (bit_at_clear_other w64 a t h k l other)
          ∙ sym (ap (λ b. (bit_at a k == 1) && not b) (apart k t other) ∙ always (bit_at a k == 1))
    ]
  where
    never : (b : Bool) → false ≡ (b && not true)
    never true = refl
    never false = refl

    always : (b : Bool) → (b && not false) ≡ b
    always true = refl
    always false = refl

    apart : (a b : ℕ) → a ≢ b → (a == b) ≡ false
    apart a b other =
        elim (a == b) as (λ r. (a == b) ≡ r → r ≡ false) [ true ↦ λ e. absurd (other (eqb-true a b e)) | false ↦ λ e. refl ] refl

pub but_less : (a t : ℕ) → t < 64 → (bit_at a t == 1) ≡ true → bit_and a (bit_not w64 (1 * 2 ^ t % 2 ^ 64)) < a
but_less a t h among =
    let c = bit_and a (bit_not w64 (1 * 2 ^ t % 2 ^ 64)) in
    let le : c ≤ a = and_le_l a (bit_not w64 (1 * 2 ^ t % 2 ^ 64)) in
    let one : bit_at a t ≡ 1 = eqb-true (bit_at a t) 1 among in
    let zero : bit_at c t ≡ 0 = bit_at_clear_same w64 a t h in
    let apart : c ≢ a = λ e. absurd (omega (arith, one, zero, ap (λ n. bit_at n t) e)) in
    less c a le apart
  where
    less : (c a : ℕ) → c ≤ a → c ≢ a → c < a
    less c a le apart = omega arith

pub first_bit : (a : ℕ) → 0 < a → a < 2 ^ 64 → (trailing_zeros w64 a < 64) × ((bit_at a (trailing_zeros w64 a) == 1) ≡ true)
first_bit a some small =
    let is = bit_at-trailing_zeros w64 a some small in
    (is.0, eq-eqb (bit_at a (trailing_zeros w64 a)) 1 is.1)

pub no_bit : (a k : ℕ) → a ≡ 0 → (bit_at a k == 1) ≡ false
no_bit a k is = ap (λ n. n == 1) (ap (λ x. bit_at x k) is ∙ bit_at-zero k)

pub same_bits : (a b : ℕ) → a < 2 ^ 64 → b < 2 ^ 64 → ((k : ℕ) → k < 64 → (bit_at a k == 1) ≡ (bit_at b k == 1)) → a ≡ b
same_bits a b small smaller same =
    same_from_bits_below 64 a b small smaller (λ k h. flags (bit_at a k) (bit_at b k) (bit_at-lt a k) (bit_at-lt b k) (same k h))
  where
    flags : (x y : ℕ) → x < 2 → y < 2 → (x == 1) ≡ (y == 1) → x ≡ y
    flags zero zero h j e = refl
    flags zero (suc zero) h j e = cc
    flags (suc zero) zero h j e = cc
    flags (suc zero) (suc zero) h j e = refl
    flags (suc (suc x)) y h j e = absurd (omega (arith, h))
    flags zero (suc (suc y)) h j e = absurd (omega (arith, j))
    flags (suc zero) (suc (suc y)) h j e = absurd (omega (arith, j))

pub no_bits : (a : ℕ) → a < 2 ^ 64 → ((k : ℕ) → k < 64 → (bit_at a k == 1) ≡ false) → a ≡ 0
no_bits a small none = same_bits a 0 small (lit< tt) (λ k h. none k h ∙ sym (no_bit 0 k refl))

pub none_has : (k : ℕ) → k < 64 → has no_targets k ≡ false
unfolding has
none_has k h = no_bit 0 k refl
