-- The LIDs of a port with LMC 0.
use Rattle.std.proofs.Common.{◌≡◌, ℕ, zero, suc, ◌+◌, ◌^◌, ◌≤◌, true, refl, arith, ◌==◌}
use Rattle.std.proofs.lemmas.Bool.{eqb-true}
use Rattle.std.proofs.lemmas.Nat.{pow_pos}
use Rattle.std.proofs.Math.Nat.{pow-succ'}
use Rattle.smp_bytes.specs.LidRange.{has_lid}

-- it is the one
pub has_one_lid : (base lid : ℕ) → has_lid base 0 lid ≡ (base == lid)
has_one_lid base lid = grind arith

-- a port has its own LID
pub has_its_lid : (base lmc : ℕ) → 1 ≤ base → has_lid base lmc base ≡ true
has_its_lid base lmc some = grind (arith, pow_pos lmc)

-- and with an LMC over 0 the next one
pub has_the_next : (base k : ℕ) → 1 ≤ base → has_lid base (suc k) (base + 1) ≡ true
has_the_next base k some =
    let more : 2 ≤ 2 ^ suc k = (let twice = pow-succ' 2 k in omega (arith, twice, pow_pos k)) in
    grind (arith, more)

-- a port that has one LID, which is not 0, has it with LMC 0
pub one_lid : (base lmc n : ℕ) → 1 ≤ n → has_lid base lmc n ≡ true → ((m : ℕ) → 1 ≤ m → has_lid base lmc m ≡ true → m ≡ n) → (base ≡ n) × (lmc ≡ 0)
one_lid zero lmc n some own only = let none = eqb-true n 0 own in absurd (omega (arith, some, none))
one_lid (suc b) zero n some own only = (only (suc b) (omega arith) (has_its_lid (suc b) 0 (omega arith)), refl)
one_lid (suc b) (suc k) n some own only =
    let first = only (suc b) (omega arith) (has_its_lid (suc b) (suc k) (omega arith)) in
    let second = only (suc b + 1) (omega arith) (has_the_next (suc b) k (omega arith)) in
    absurd (omega (arith, first, second))
