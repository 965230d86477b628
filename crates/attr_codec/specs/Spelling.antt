-- How the 64 bytes of an attribute correspond to the value that they spell.
use Rattle.std.specs.Prelude.{◌≡◌, ℕ, ◌-◌, ◌<◌, ◌++◌, List, All, drop, length, replicate, take}

-- `bytes` are 64 numbers, each below 256
pub record Are64Bytes (bytes : List ℕ) : Type 0 where
  pub count : length bytes ≡ 64
  pub bytes_fit : All (λ byte. byte < 256) bytes

-- for any 64 bytes, `bytes_of` gives these bytes again from the value that `value_in` reads from them
abbrev pub KeepsAllBytes : {V : Type 0} → (List ℕ → V) → (V → List ℕ) → Type 0
KeepsAllBytes value_in bytes_of = (bytes : List ℕ) → Are64Bytes bytes → bytes_of (value_in bytes) ≡ bytes

-- for any 64 bytes, `bytes_of` gives the first `count` of them again from the value that `value_in` reads from them.
-- The bytes after these are reserved, and `bytes_of` gives 0 for them
abbrev pub KeepsFirstBytes : {V : Type 0} → ℕ → (List ℕ → V) → (V → List ℕ) → Type 0
KeepsFirstBytes count value_in bytes_of =
    (bytes : List ℕ) → Are64Bytes bytes → bytes_of (value_in bytes) ≡ take count bytes ++ replicate (64 - count) 0

-- `bytes` are 64 bytes that spell `value`. The bytes after the first `count` are 0
pub record Spells {V : Type 0} (count : ℕ) (value_in : List ℕ → V) (value : V) (bytes : List ℕ) : Type 0 where
  pub whole : length bytes ≡ 64
  pub fields : value_in bytes ≡ value
  pub reserved : drop count bytes ≡ replicate (64 - count) 0

-- `bytes_of` spells each value that satisfies `is_value` (`Spells`)
abbrev pub SpellsEachValue : {V : Type 0} → ℕ → (List ℕ → V) → (V → List ℕ) → (V → Type 0) → Type 0
SpellsEachValue {V = V} count value_in bytes_of is_value =
    (value : V) → is_value value → Spells count value_in value (bytes_of value)
