-- What is written into some bits of a byte is read from them, and all other bits stay.
use Rattle.std.proofs.Common.{◌≡◌, ℕ, ◌+◌, ◌-◌, ◌*◌, ◌/◌, ◌%◌, ◌^◌, ◌<◌, ◌≤◌, ◌≢◌, List, ◌⊎◌, inl, inr, refl, sym, ap, ◌∙◌, subst, arith, true, false, length, get_or, ◌||◌, ◌==◌}
use Rattle.std.specs.Prelude.{nat_le, not}
use Rattle.std.proofs.lemmas.Bool.{leb-true, leb-false, eqb-true, eq-eqb}
use Rattle.std.proofs.lemmas.List.{get_or-drop}
use Rattle.std.proofs.lemmas.Nat.{div-mul-add, mod-mul-add, shr-shr, mod-pow-add, field_of, pow_pos, pow-add, div_below, mul-add-lt}
use Rattle.std.proofs.Math.Nat.{mod-lt}
use Rattle.smp_bytes.specs.Field.{Bits, number_in, bits_in, with_bits, replaced, are_bits_apart}
use Rattle.smp_bytes.proofs.FieldLaws.{number_in-with_number, get_or-with_bytes}

below : (n k : ℕ) → n % 2 ^ k < 2 ^ k
below n k = mod-lt n (pow_pos k)

-- the remainder by a smaller power
mod-mod_more : (n d k : ℕ) → n % 2 ^ (d + k) % 2 ^ k ≡ n % 2 ^ k
mod-mod_more n d k = ap (λ m. m % 2 ^ k) (mod-pow-add n d k) ∙ mod-mul-add (n / 2 ^ k % 2 ^ d) (2 ^ k) (n % 2 ^ k) (below n k)

module _ (b : Bits) (number byte : ℕ) where
  above : replaced b number byte / 2 ^ b.shift ≡ byte / 2 ^ (b.shift + b.width) * 2 ^ b.width + number
  above = div-mul-add (byte / 2 ^ (b.shift + b.width) * 2 ^ b.width + number) (2 ^ b.shift) (byte % 2 ^ b.shift) (below byte b.shift)

  below-replaced : replaced b number byte % 2 ^ b.shift ≡ byte % 2 ^ b.shift
  below-replaced = mod-mul-add (byte / 2 ^ (b.shift + b.width) * 2 ^ b.width + number) (2 ^ b.shift) (byte % 2 ^ b.shift) (below byte b.shift)

  the_bits : number < 2 ^ b.width → replaced b number byte / 2 ^ b.shift % 2 ^ b.width ≡ number
  the_bits small = ap (λ n. n % 2 ^ b.width) above ∙ mod-mul-add (byte / 2 ^ (b.shift + b.width)) (2 ^ b.width) number small

  far_above : number < 2 ^ b.width → replaced b number byte / 2 ^ (b.shift + b.width) ≡ byte / 2 ^ (b.shift + b.width)
  far_above small =
      sym (shr-shr (replaced b number byte) b.shift b.width)
      ∙ ap (λ n. n / 2 ^ b.width) above
      ∙ div-mul-add (byte / 2 ^ (b.shift + b.width)) (2 ^ b.width) number small

  pub replaced_fits : byte < 256 → number < 2 ^ b.width → b.shift + b.width ≤ 8 → replaced b number byte < 256
  replaced_fits fits small within =
      let rest = 8 - (b.shift + b.width) in
      let sum : rest + (b.shift + b.width) ≡ 8 = omega arith in
      let whole : 256 ≡ 2 ^ rest * 2 ^ (b.shift + b.width) = ap (λ n. 2 ^ n) (sym sum) ∙ pow-add 2 rest (b.shift + b.width) in
      let top : byte / 2 ^ (b.shift + b.width) < 2 ^ rest =
      div_below byte (2 ^ (b.shift + b.width)) (2 ^ rest) (pow_pos (b.shift + b.width)) (subst (λ (n : ℕ). byte < n) whole fits) in
      let middle : byte / 2 ^ (b.shift + b.width) * 2 ^ b.width + number < 2 ^ b.width * 2 ^ rest =
      mul-add-lt (byte / 2 ^ (b.shift + b.width)) (2 ^ b.width) number (2 ^ rest) top small in
      let all : replaced b number byte < 2 ^ b.shift * (2 ^ b.width * 2 ^ rest) = mul-add-lt (byte / 2 ^ (b.shift + b.width) * 2 ^ b.width + number)
      (2 ^ b.shift) (byte % 2 ^ b.shift) (2 ^ b.width * 2 ^ rest) middle (below byte b.shift) in
      let ends : b.shift + (b.width + rest) ≡ 8 = omega arith in
      let eight : 2 ^ b.shift * (2 ^ b.width * 2 ^ rest) ≡ 256 = ap (λ n. 2 ^ b.shift * n) (sym (pow-add 2 b.width rest))
      ∙ sym (pow-add 2 b.shift (b.width + rest)) ∙ ap (λ n. 2 ^ n) ends in
      subst (λ (n : ℕ). replaced b number byte < n) eight all

-- bits by what is above and what is below them
bits-by_mod : (n shift width : ℕ) → n / 2 ^ shift % 2 ^ width ≡ n % 2 ^ (width + shift) / 2 ^ shift
bits-by_mod n shift width = sym (field_of n width shift)

-- bits below others depend on what is below these alone
bits_below : (m n shift width above : ℕ) → width + shift ≤ above → m % 2 ^ above ≡ n % 2 ^ above → m / 2 ^ shift % 2 ^ width ≡ n / 2 ^ shift % 2 ^ width
bits_below m n shift width above h same =
    let d = above - (width + shift) in
    let sum : above ≡ d + (width + shift) = omega arith in
    let at : (x : ℕ) → x % 2 ^ (width + shift) ≡ x % 2 ^ above % 2 ^ (width + shift) = λ x. sym (mod-mod_more x d (width + shift))
    ∙ ap (λ k. x % 2 ^ k % 2 ^ (width + shift)) (sym sum) in
    bits-by_mod m shift width ∙ ap (λ x. x / 2 ^ shift) (at m ∙ ap (λ x. x % 2 ^ (width + shift)) same ∙ sym (at n)) ∙ sym (bits-by_mod n shift width)

-- bits above others depend on what is above these alone
bits_above : (m n shift width below : ℕ) → below ≤ shift → m / 2 ^ below ≡ n / 2 ^ below → m / 2 ^ shift % 2 ^ width ≡ n / 2 ^ shift % 2 ^ width
bits_above m n shift width below h same =
    let d = shift - below in
    let sum : shift ≡ below + d = omega arith in
    let at : (x : ℕ) → x / 2 ^ shift ≡ x / 2 ^ below / 2 ^ d = λ x. ap (λ k. x / 2 ^ k) sum ∙ sym (shr-shr x below d) in
    ap (λ x. x % 2 ^ width) (at m ∙ ap (λ x. x / 2 ^ d) same ∙ sym (at n))

-- the byte at an offset, as a field of one byte
pub byte-number_in : (at : ℕ) (bytes : List ℕ) → number_in (record { at = at; len = 1 }) bytes ≡ get_or bytes at 0
byte-number_in at bytes =
    let here = get_or-drop at bytes 0 0 in
    let there : get_or bytes (at + 0) 0 ≡ get_or bytes at 0 = ap (λ i. get_or bytes i 0) (omega arith) in
    omega (arith, here, there)

-- the byte that is written
pub get_or-with_bits : (b : Bits) (number : ℕ) (bytes : List ℕ) → b.at < length bytes → replaced b number (get_or bytes b.at 0) < 256
    → get_or (with_bits b number bytes) b.at 0 ≡ replaced b number (get_or bytes b.at 0)
get_or-with_bits b number bytes within fits =
    sym (byte-number_in b.at (with_bits b number bytes))
    ∙ number_in-with_number (record { at = b.at; len = 1 }) (replaced b number (get_or bytes b.at 0)) bytes (omega arith) fits

-- the number that was written
pub bits_in-with_bits : (b : Bits) (number : ℕ) (bytes : List ℕ) → b.at < length bytes → get_or bytes b.at 0 < 256 → b.shift + b.width ≤ 8
    → number < 2 ^ b.width → bits_in b (with_bits b number bytes) ≡ number
bits_in-with_bits b number bytes within byte room small =
    let fits = replaced_fits b number (get_or bytes b.at 0) byte small room in
    ap (λ n. n / 2 ^ b.shift % 2 ^ b.width) (get_or-with_bits b number bytes within fits) ∙ the_bits b number (get_or bytes b.at 0) small

bits_cases : (a b : Bits) → are_bits_apart a b ≡ true → ((a.at == b.at) ≡ false) ⊎ ((a.shift + a.width ≤ b.shift) ⊎ (b.shift + b.width ≤ a.shift))
bits_cases a b h =
    elim (a.at == b.at) as (λ t. (not t || (nat_le (a.shift + a.width) b.shift || nat_le (b.shift + b.width) a.shift)) ≡ true
    → (t ≡ false) ⊎ ((a.shift + a.width ≤ b.shift) ⊎ (b.shift + b.width ≤ a.shift))) [
      | false ↦ λ _. inl refl
      | true ↦ λ p. inr ((elim (nat_le (a.shift + a.width) b.shift) as
          (λ u. nat_le (a.shift + a.width) b.shift ≡ u → (u || nat_le (b.shift + b.width) a.shift) ≡ true
          → (a.shift + a.width ≤ b.shift) ⊎ (b.shift + b.width ≤ a.shift)) [
            | true ↦ λ q _. inl (leb-true _ _ q)
            | false ↦ λ q r. inr (leb-true _ _ r)
          ]) refl p)
    ] h

other_byte : (a b : Bits) (number : ℕ) (bytes : List ℕ) → b.at < length bytes → (a.at == b.at) ≡ false
    → get_or (with_bits b number bytes) a.at 0 ≡ get_or bytes a.at 0
other_byte a b number bytes within differ =
    elim (nat_le (b.at + 1) a.at) as (λ t. nat_le (b.at + 1) a.at ≡ t → get_or (with_bits b number bytes) a.at 0 ≡ get_or bytes a.at 0) [
      | true ↦ λ p. get_or-with_bytes b.at _ bytes a.at (omega arith) (inr (leb-true _ _ p))
      | false ↦ λ p. let low = leb-false _ _ p in let other : a.at ≢ b.at = λ e. absurd (cc (eq-eqb a.at b.at e)) in get_or-with_bytes b.at _ bytes a.at
          (omega arith) (inl (omega arith))
    ] refl

-- in one byte
apart_in_byte : (a b : Bits) (number byte : ℕ) → number < 2 ^ b.width → (a.shift + a.width ≤ b.shift) ⊎ (b.shift + b.width ≤ a.shift)
    → replaced b number byte / 2 ^ a.shift % 2 ^ a.width ≡ byte / 2 ^ a.shift % 2 ^ a.width
apart_in_byte a b number byte small (inl h) = bits_below (replaced b number byte) byte a.shift a.width b.shift (omega arith) (below-replaced b number byte)
apart_in_byte a b number byte small (inr h) = bits_above (replaced b number byte) byte a.shift a.width (b.shift + b.width) h (far_above b number byte small)

-- bits apart keep their number
pub bits_in-with_bits_apart : (a b : Bits) (number : ℕ) (bytes : List ℕ) → b.at < length bytes → get_or bytes b.at 0 < 256 → b.shift + b.width ≤ 8
    → number < 2 ^ b.width → are_bits_apart a b ≡ true → bits_in a (with_bits b number bytes) ≡ bits_in a bytes
bits_in-with_bits_apart a b number bytes within byte room small apart =
    let fits = replaced_fits b number (get_or bytes b.at 0) byte small room in
    elim (a.at == b.at) as (λ t. (a.at == b.at) ≡ t → bits_in a (with_bits b number bytes) ≡ bits_in a bytes) [
      | false ↦ λ p. ap (λ n. n / 2 ^ a.shift % 2 ^ a.width) (other_byte a b number bytes within p)
      | true ↦ λ p. let same : a.at ≡ b.at = eqb-true _ _ p in (elim (bits_cases a b apart) [
        | inl q ↦ absurd (cc)
        | inr h ↦ ap (λ i. get_or (with_bits b number bytes) i 0 / 2 ^ a.shift % 2 ^ a.width) same
            ∙ ap (λ n. n / 2 ^ a.shift % 2 ^ a.width) (get_or-with_bits b number bytes within fits)
            ∙ apart_in_byte a b number (get_or bytes b.at 0) small h
            ∙ ap (λ i. get_or bytes i 0 / 2 ^ a.shift % 2 ^ a.width) (sym same)
      ])
    ] refl
