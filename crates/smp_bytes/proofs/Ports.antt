-- The ports of a path, one after the other.
use Rattle.std.proofs.Common.{◌≡◌, ℕ, zero, suc, ◌+◌, ◌&&◌, List, ◌∷◌, [], drop, arith, ap, sym, ◌∙◌}
use Rattle.std.specs.Prelude.{Some, slice_get, ◌==◌}
use Rattle.smp_bytes.specs.Answers.{has_ports}
use Rattle.smp_bytes.specs.Field.{number_in}
use Rattle.smp_bytes.specs.Packet.{initial_path}

pub plus_one : (n : ℕ) → n + 1 ≡ suc n
plus_one n = omega arith

drop_at_suc : {T : Type 0} (n : ℕ) (xs : List T) (x : T) → slice_get xs n ≡ Some x → drop n xs ≡ x ∷ drop (suc n) xs
drop_at_suc n [] x at = absurd (cc)
drop_at_suc zero (y ∷ ys) x at = cc
drop_at_suc (suc n) (y ∷ ys) x at = drop_at_suc n ys x at

pub drop_at : {T : Type 0} (n : ℕ) (xs : List T) (x : T) → slice_get xs n ≡ Some x → drop n xs ≡ x ∷ drop (n + 1) xs
drop_at n xs x at = drop_at_suc n xs x at ∙ ap (λ k. x ∷ drop k xs) (sym (plus_one n))

-- what the port at an index decides
pub ports_next : (packet : List ℕ) (n i : ℕ) (path : List ℕ) (port : ℕ) → slice_get path i ≡ Some port
    → has_ports packet n (drop i path) ≡ (number_in (initial_path n) packet == port && has_ports packet (n + 1) (drop (i + 1) path))
ports_next packet n i path port at = ap (has_ports packet n) (drop_at i path port at)
