-- Sets of LIDs by their bits.
use Rattle.std.proofs.Common.{◌≡◌, ◌<◌, ◌==◌, ◌||◌, ◌⊎◌, ℕ, Bool, true, false, inl, inr, refl, sym, ◌∙◌}
use Rattle.std.specs.Int.{bit_at}
use Rattle.std.proofs.lemmas.Bool.{and_parts, eqb-true}
use Rattle.spread_labels.proofs.TargetBits.{and_bit, no_bit, or_bit, with_bit}
use Rattle.packet_walks.specs.declared.lid_set.LidSet.{LidSet}
use Rattle.packet_walks.specs.LidSet.{both, either, has, no_lids, with_lid}

one_of : (a b : Bool) → (a || b) ≡ true → (a ≡ true) ⊎ (b ≡ true)
one_of true b h = inl refl
one_of false b h = inr h

pub none_has : (i : ℕ) → has no_lids i ≡ false
unfolding has
none_has i = no_bit 0 i refl

pub with_has : (lids : LidSet) (index i : ℕ) → index < 64 → has (with_lid lids index) i ≡ true → (i ≡ index) ⊎ (has lids i ≡ true)
unfolding has
with_has lids index i less is =
    elim (one_of (i == index) (bit_at lids.bits i == 1) (sym (with_bit lids.bits index i less) ∙ is)) [
      | inl same ↦ inl (eqb-true i index same)
      | inr before ↦ inr before
    ]

pub either_has : (lids other : LidSet) (i : ℕ) → has (either lids other) i ≡ true → (has lids i ≡ true) ⊎ (has other i ≡ true)
unfolding has
either_has lids other i is = one_of (bit_at lids.bits i == 1) (bit_at other.bits i == 1) (sym (or_bit lids.bits other.bits i) ∙ is)

pub both_has : (lids other : LidSet) (i : ℕ) → has (both lids other) i ≡ true → (has lids i ≡ true) × (has other i ≡ true)
unfolding has
both_has lids other i is = and_parts (bit_at lids.bits i == 1) (bit_at other.bits i == 1) (sym (and_bit lids.bits other.bits i) ∙ is)
