-- Sets of up to 64 targets.
use Rattle.std.specs.Prelude.{◌<◌, ℕ, ◌==◌, Bool}
use Rattle.std.specs.Int.{bit_at}
use Rattle.spread_labels.specs.declared.target_set.TargetSet.{TargetSet}

-- each number of a target, from 0 to 63, satisfies `P`
abbrev pub EachTarget : (ℕ → Type 0) → Type 0
EachTarget P = (k : ℕ) → k < 64 → P k

-- whether target `k` is in the set
unfoldable pub has : TargetSet → ℕ → Bool
has set k = bit_at set.bits k == 1

-- the empty set
abbrev pub no_targets : TargetSet
no_targets = record { bits = 0 }
