-- The spelling of an attribute: 64 bytes in which some fields have numbers and everything else is 0.
use Rattle.std.specs.Prelude.{ℕ, ◌^◌, ◌<◌, List, [], ◌∷◌, replicate}
use Rattle.smp_bytes.specs.Field.{Entry, with_numbers}

-- 64 bytes of 0, with the number of each entry written into its field
abbrev pub image : List Entry → List ℕ
image entries = with_numbers entries (replicate 64 0)

-- the number of each entry fits in the bytes of its field
abbrev pub AllFit : List Entry → Type 0
AllFit [] = Unit {0}
AllFit (e ∷ entries) = (e.number < 256 ^ e.field.len) × AllFit entries
