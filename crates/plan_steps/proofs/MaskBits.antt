-- The bits of masks.
use Rattle.std.proofs.Common.{◌≡◌, ◌↔◌, ◌⊎◌, ◌<◌, ◌≤◌, ◌+◌, ◌*◌, ◌/◌, ◌%◌, ◌^◌, ◌==◌, ℕ, zero, suc, List, [], ◌∷◌, inl, inr, refl, sym, ap, ◌∙◌, subst, arith, lit<, lit≤, true, false, cond, bit_or, replicate, get_or}
use Rattle.std.proofs.lemmas.Bool.{cases_eq, eq-eqb, eqb-true}
use Rattle.std.proofs.lemmas.List.{length-replicate}
use Rattle.std.proofs.lemmas.Nat.{or_of_16}
use Rattle.std.proofs.lemmas.Nat.Bits.{bit_at-zero, bit_at_set_same, bit_at_set_other}
use Rattle.std.specs.Int.{bit_at, w16}
use Rattle.std.specs.Prelude.{Contains, fold}
use Rattle.smp_bytes.specs.Field.{number_in}
use Rattle.smp_bytes.proofs.FieldLaws.{get_or-with_bytes, length-with_number, number_in-with_number}
use Rattle.byteorder.specs.Endian.{big_bytes}
use Rattle.byteorder.specs.Numbers.{length-bytes_high_first}
use Rattle.smp_bytes.proofs.Members.{contains_cases, contains_here, contains_later, contains_none}
use Rattle.plan_steps.specs.MaskSteps.{first_mask, mask_of, mask_with, masks_data}
use Rattle.plan_steps.specs.MaskLaws.{MasksHaveTheirPorts}

module _ (position : ℕ) where
  -- one more port
  small_with : (mask port : ℕ) → mask < 2 ^ 16 → mask_with position mask port < 2 ^ 16
  small_with mask port h =
      elim (port / 16 == position) as (λ t. cond t (bit_or mask (1 * 2 ^ (port % 16) % 2 ^ 16)) mask < 2 ^ 16) [
        | true ↦ or_of_16 mask (1 * 2 ^ (port % 16) % 2 ^ 16) h (omega arith)
        | false ↦ h
      ]

  bit_with : (mask port k : ℕ) → k < 16 → (bit_at (mask_with position mask port) k ≡ 1) ↔ ((bit_at mask k ≡ 1) ⊎ (port ≡ 16 * position + k))
  bit_with mask port k h =
      elim (port / 16 == position) as (λ t. (port / 16 == position) ≡ t
      → (bit_at (cond t (bit_or mask (1 * 2 ^ (port % 16) % 2 ^ 16)) mask) k ≡ 1) ↔ ((bit_at mask k ≡ 1) ⊎ (port ≡ 16 * position + k))) [
        | true ↦ λ e. there (eqb-true (port / 16) position e)
        | false ↦ λ e. (inl, λ c. (elim c [ inl b ↦ b | inr s ↦ absurd (let w = eq-eqb (port / 16) position (omega (arith, s, h)) in cc) ]))
      ] refl
    where
      there : port / 16 ≡ position → (bit_at (bit_or mask (1 * 2 ^ (port % 16) % 2 ^ 16)) k ≡ 1) ↔ ((bit_at mask k ≡ 1) ⊎ (port ≡ 16 * position + k))
      there e =
          elim (cases_eq k (port % 16)) [
            | inl same ↦ (
              λ b. inr (omega (arith, e, same)),
              λ c. ap (bit_at (bit_or mask (1 * 2 ^ (port % 16) % 2 ^ 16))) same ∙ bit_at_set_same w16 mask (port % 16) (omega arith),
            )
            | inr other ↦ (
              λ b. inl (sym (bit_at_set_other w16 mask (port % 16) (omega arith) k other) ∙ b),
              λ c. bit_at_set_other w16 mask (port % 16) (omega arith) k other
                  ∙ (elim c [ inl b ↦ b | inr s ↦ absurd (other (omega (arith, s, h))) ]),
            )
          ]

  -- all ports
  small_all : (ports : List ℕ) (mask : ℕ) → mask < 2 ^ 16 → fold (mask_with position) mask ports < 2 ^ 16
  small_all [] mask h = h
  small_all (port ∷ ports) mask h = small_all ports (mask_with position mask port) (small_with mask port h)

  bit_all : (ports : List ℕ) (mask k : ℕ) → k < 16
      → (bit_at (fold (mask_with position) mask ports) k ≡ 1) ↔ ((bit_at mask k ≡ 1) ⊎ Contains ports (16 * position + k))
  bit_all [] mask k h = (inl, λ c. (elim c [ inl b ↦ b | inr n ↦ absurd (contains_none (16 * position + k) n) ]))
  bit_all (port ∷ ports) mask k h =
      let rest = bit_all ports (mask_with position mask port) k h in
      let here = bit_with mask port k h in (
        λ b. (elim (rest.0 b) [
          | inl m ↦ (elim (here.0 m) [
            | inl o ↦ inl o
            | inr s ↦ inr (subst (λ (x : ℕ). Contains (port ∷ ports) x) s (contains_here port ports))
          ])
          | inr c ↦ inr (contains_later port (16 * position + k) ports c)
        ]),
        λ c. rest.1 (elim c [
          | inl o ↦ inl (here.1 (inl o))
          | inr s ↦ (elim (contains_cases port (16 * position + k) ports s) [
            | inl e ↦ inl (here.1 (inr e))
            | inr later ↦ inr later
          ])
        ]),
      )

pub small_mask : (ports : List ℕ) (position : ℕ) → mask_of ports position < 2 ^ 16
small_mask ports position = small_all position ports 0 (lit< tt)

-- a bit of a mask is a port
pub mask_bit : (ports : List ℕ) (position k : ℕ) → k < 16 → (bit_at (mask_of ports position) k ≡ 1) ↔ Contains ports (16 * position + k)
mask_bit ports position k h =
    let all = bit_all position ports 0 k h in (
      λ b. (elim (all.0 b) [ inl z ↦ absurd (let o = bit_at-zero k in omega arith) | inr c ↦ c ]),
      λ c. all.1 (inr c),
    )

-- what is written of a mask is read
pub mask_read : (mask : ℕ) → mask < 2 ^ 16 → number_in first_mask (masks_data mask) ≡ mask
mask_read mask h = number_in-with_number first_mask mask (replicate 64 0) (lit≤ tt) h

-- zeros
zeros : (n i : ℕ) → get_or (replicate {A = ℕ} n 0) i 0 ≡ 0
zeros zero i = refl
zeros (suc n) zero = refl
zeros (suc n) (suc i) = zeros n i

pub masks_have_their_ports : MasksHaveTheirPorts
masks_have_their_ports ports position =
    record {
      whole = length-with_number first_mask (mask_of ports position) (replicate 64 0) (lit≤ tt);
      bits = λ k h. subst (λ (n : ℕ). (bit_at n k ≡ 1) ↔ Contains ports (16 * position + k)) (sym (mask_read (mask_of ports position) (small_mask ports position)))
          (mask_bit ports position k h);
      no_others = others (mask_of ports position);
    }
  where
    others : (mask i : ℕ) → 2 ≤ i → get_or (masks_data mask) i 0 ≡ 0
    others mask i l =
        get_or-with_bytes 0 (big_bytes 2 mask) (replicate 64 0) i (omega (arith, length-bytes_high_first 2 mask, length-replicate {A = ℕ} 64 0)) (inr (omega (arith, length-bytes_high_first 2 mask)))
        ∙ zeros 64 i
