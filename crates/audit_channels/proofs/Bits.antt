-- Channels of one row of 64, by the bits of a word.
use Rattle.std.proofs.Common.{◌≡◌, ◌⊎◌, ◌/◌, ◌%◌, ◌*◌, ◌^◌, ◌<◌, ℕ, inl, inr, sym, ap, ◌∙◌, arith, bit_or}
use Rattle.std.specs.Int.{bit_at, w64}
use Rattle.std.proofs.lemmas.Bool.{cases_lt}
use Rattle.std.proofs.lemmas.Nat.Bits.{bit_at-zero, bit_at_set_same, bit_at_set_other}
use Rattle.audit_channels.specs.ChannelSet.{Knows}
use Rattle.audit_channels.specs.declared.channel_set.ChannelSet.{ChannelSet}

-- a word with one bit more
abbrev with_bit : ℕ → ℕ → ℕ
with_bit bits index = bit_or bits (1 * 2 ^ index % 2 ^ 64)

-- the bit is that one or another
bit_cases : (bits index other : ℕ) → index < 64 → (bit_at (with_bit bits index) other ≡ bit_at bits other) ⊎ (other ≡ index)
bit_cases bits index other less =
    elim (cases_lt other index) [
      | inl l ↦ inl (bit_at_set_other w64 bits index less other (λ q. omega arith))
      | inr m ↦ (elim (cases_lt index other) [
        | inl l ↦ inl (bit_at_set_other w64 bits index less other (λ q. omega arith))
        | inr n ↦ inr (omega arith)
      ])
    ]

-- a channel of the row more
module _ (known next : ChannelSet) (channel : ℕ) (row_is : next.row ≡ channel / 64) (bits_are : next.bits ≡ with_bit known.bits (channel % 64)) where
  same_bit : (other : ℕ) → bit_at next.bits other ≡ bit_at (with_bit known.bits (channel % 64)) other
  same_bit other = ap (λ (b : ℕ). bit_at b other) bits_are

  pub knows_this : Knows next channel
  knows_this = record { row_is = row_is; bit_is = same_bit (channel % 64) ∙ bit_at_set_same w64 known.bits (channel % 64) (omega arith) }

  pub knows_still : known.row ≡ channel / 64 → (other : ℕ) → Knows known other → Knows next other
  knows_still same other k = record {
    row_is = row_is ∙ sym same ∙ k.row_is;
    bit_is = elim (bit_cases known.bits (channel % 64) (other % 64) (omega arith)) [
      | inl e ↦ same_bit (other % 64) ∙ e ∙ k.bit_is
      | inr e ↦ ap (bit_at next.bits) e ∙ knows_this.bit_is
    ];
  }

  pub knows_no_other : known.row ≡ channel / 64 → (other : ℕ) → Knows next other → Knows known other ⊎ (other ≡ channel)
  knows_no_other same other k =
      let here = k.row_is in
      elim (bit_cases known.bits (channel % 64) (other % 64) (omega arith)) [
        | inl e ↦ inl (record { row_is = same ∙ sym row_is ∙ k.row_is; bit_is = sym e ∙ sym (same_bit (other % 64)) ∙ k.bit_is })
        | inr e ↦ inr (omega arith)
      ]

  -- if no channel was known
  pub knows_none : known.bits ≡ 0 → (other : ℕ) → Knows known other → Knows next other
  knows_none none other k =
      let bit = k.bit_is in
      let same : bit_at known.bits (other % 64) ≡ bit_at 0 (other % 64) = ap (λ (b : ℕ). bit_at b (other % 64)) none in
      let zero = bit_at-zero (other % 64) in absurd (omega arith)

  pub knows_one : known.bits ≡ 0 → (other : ℕ) → Knows next other → Knows known other ⊎ (other ≡ channel)
  knows_one none other k =
      let here = k.row_is in
      let bit = k.bit_is in
      elim (bit_cases known.bits (channel % 64) (other % 64) (omega arith)) [
        | inl e ↦
            let same : bit_at known.bits (other % 64) ≡ bit_at 0 (other % 64) = ap (λ (b : ℕ). bit_at b (other % 64)) none in
            let new = same_bit (other % 64) in let zero = bit_at-zero (other % 64) in absurd (omega arith)
        | inr e ↦ inr (omega arith)
      ]
