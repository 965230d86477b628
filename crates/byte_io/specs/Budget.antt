-- How much one reading may take before it counts as too long.
use Rattle.std.specs.Prelude.{◌≡◌, ◌⊎◌, ℕ, ◌^◌}

-- a reading is used up: it took 2^40 bytes, or made 2^40 calls
abbrev pub IsSpent : ℕ → ℕ → Type 0
IsSpent bytes calls = (bytes ≡ 2 ^ 40) ⊎ (calls ≡ 2 ^ 40)
