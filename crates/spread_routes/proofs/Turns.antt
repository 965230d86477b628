-- The digit of a number at a switch, by the weight of the turn.
use Rattle.std.proofs.Common.{◌≡◌, ◌/◌, ℕ, Bool, true, false, refl, arith, cond}

pub digit_by : (higher : Bool) (n weight : ℕ) → n / cond higher weight 1 ≡ cond higher (n / weight) n
digit_by true n weight = refl
digit_by false n weight = let one : n / 1 ≡ n = omega arith in one
