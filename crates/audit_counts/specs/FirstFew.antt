-- The first items of a kind, which are listed, and how many there are.
use Rattle.std.specs.Prelude.{ℕ, ◌+◌, ◌-◌, Bool, List, [], ◌∷◌, ◌++◌, count_by, filter, length, nat_lt, take, if◌then◌else◌}

-- the first elements that pass `test`, at most `most` of them
abbrev pub first_of : {X : Type 0} → ℕ → (X → Bool) → List X → List X
first_of most test xs = take most (filter test xs)

-- `told`, with `x` appended if `told` has fewer than `most` elements
abbrev pub first_few : {X : Type 0} → ℕ → List X → X → List X
first_few most told x = if nat_lt (length told) most then told ++ x ∷ [] else told

-- the number of items of a kind, and the first of these items, at most `most`
pub record Listed (X : Type 0) : Type 0 where
  pub most : ℕ
  pub first : List X
  pub count : ℕ

-- the number of items that pass `test`, and the first `most` of them
abbrev pub listed_of : {X : Type 0} → ℕ → (X → Bool) → List X → Listed X
listed_of most test xs = record { most = most; first = first_of most test xs; count = count_by test xs }

-- the number of all items of a list, and the first `most` of them
abbrev pub all_listed : {X : Type 0} → ℕ → List X → Listed X
all_listed most xs = record { most = most; first = take most xs; count = length xs }

-- `told` with the item `x` counted, and with `x` listed if fewer than `told.most` items are listed
abbrev pub listed : {X : Type 0} → Listed X → X → Listed X
listed told x = record { most = told.most; first = first_few told.most told.first x; count = told.count + 1 }

-- the number of items that are not listed
abbrev pub more_of : {X : Type 0} → Listed X → ℕ
more_of told = told.count - length told.first
