-- Shifts of a byte in a word of 32 bits lose nothing.
use Rattle.std.proofs.Common.{◌≡◌, ℕ, ◌+◌, ◌*◌, ◌/◌, ◌%◌, ◌^◌, ◌<◌, ◌≤◌, ap, ◌∙◌, arith}
use Rattle.std.proofs.lemmas.Nat.{one_shl, pow_pos}
use Rattle.std.proofs.Math.Nat.{mod-eq_of_lt, mul-le-mul_left}
use Rattle.smp_bytes.specs.Field.{replaced}
use Rattle.smp_bytes.proofs.BitLaws.{replaced_fits}

pub shifted : (shift width number byte : ℕ) → byte < 256 → shift + width ≤ 8 → number < 2 ^ width →
    (byte / 2 ^ (shift + width) * 2 ^ width % 4294967296 + number) * 2 ^ shift % 4294967296 + byte % (1 * 2 ^ shift % 4294967296)
    ≡ replaced (record { at = 0; shift = shift; width = width }) number byte
shifted shift width number byte fits within small =
    let all = replaced_fits (record { at = 0; shift = shift; width = width }) number byte fits small within in
    let grows : (byte / 2 ^ (shift + width) * 2 ^ width + number) * 1 ≤ (byte / 2 ^ (shift + width) * 2 ^ width + number) * 2 ^ shift =
    mul-le-mul_left (byte / 2 ^ (shift + width) * 2 ^ width + number) (pow_pos shift) in
    let high : byte / 2 ^ (shift + width) * 2 ^ width % 4294967296 ≡ byte / 2 ^ (shift + width) * 2 ^ width = mod-eq_of_lt (omega arith) in
    let one : 1 * 2 ^ shift % 4294967296 ≡ 2 ^ shift = one_shl shift 32 (omega arith) in
    ap (λ n. (n + number) * 2 ^ shift % 4294967296 + byte % (1 * 2 ^ shift % 4294967296)) high
    ∙ ap (λ n. n + byte % (1 * 2 ^ shift % 4294967296)) (mod-eq_of_lt (omega arith))
    ∙ ap (λ n. (byte / 2 ^ (shift + width) * 2 ^ width + number) * 2 ^ shift + byte % n) one
