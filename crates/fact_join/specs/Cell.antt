-- The order of cells, and the join of two cells. A newer cell is above an older one. A disputed cell is above a known
-- cell of the same generation.
use Rattle.std.specs.Prelude.{◌≡◌, ℕ, ◌<◌, Bool, ◌⊎◌, nat_lt, if◌then◌else◌}
use Rattle.fact_join.specs.declared.cell.Cell.{Cell}
use Rattle.fact_join.specs.declared.cell.Cell.TheVariants.{Known, Disputed}

-- the generation of a cell, known or disputed
abbrev pub generation_of : {V : Type 0} → Cell V → ℕ
generation_of (Known generation value) = generation
generation_of (Disputed generation) = generation

-- the cell is disputed: it has a generation, but no value
abbrev pub IsDisputed : {V : Type 0} → Cell V → Type 0
IsDisputed (Known generation value) = ⊥
IsDisputed (Disputed generation) = Unit {0}

-- `a` is below `b` if `b` is newer, is equal to `a`, or is disputed in the generation of `a`
abbrev pub IsBelow : {V : Type 0} → Cell V → Cell V → Type 0
IsBelow a b = (generation_of a < generation_of b) ⊎ (a ≡ b) ⊎ ((generation_of a ≡ generation_of b) × IsDisputed b)

-- the join of two cells of the same generation: the first if both are known with values that `same` calls equal,
-- otherwise disputed in that generation
abbrev pub joined_alike : {V : Type 0} → (V → V → Bool) → Cell V → Cell V → Cell V
joined_alike same (Known generation x) (Known other y) = if same x y then Known generation x else Disputed generation
joined_alike same (Known generation x) (Disputed other) = Disputed generation
joined_alike same (Disputed generation) b = Disputed generation

-- the join of two cells: the newer one; if they have the same generation, `joined_alike`
abbrev pub joined_by : {V : Type 0} → (V → V → Bool) → Cell V → Cell V → Cell V
joined_by same a b =
    if nat_lt (generation_of b) (generation_of a) then a else
    (if nat_lt (generation_of a) (generation_of b) then b else joined_alike same a b)
