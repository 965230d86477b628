-- Roots, as they are found one after another.
use Rattle.std.specs.Prelude.{◌≡◌, ℕ, List, EachIndex, Option, None, option_map, slice_index_or}
use Rattle.std.specs.Option.{option_or}

-- `new` is `roots`, with `root` set for each switch that had no root and that has a distance in `distances`
abbrev pub FillsIn : List (Option ℕ) → List (Option ℕ) → ℕ → List (Option ℕ) → Type 0
FillsIn roots distances root new =
    EachIndex new (λ k. slice_index_or new k None
    ≡ option_or (slice_index_or roots k None) (option_map (λ d. root) (slice_index_or distances k None)))
