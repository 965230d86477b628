-- Indices in groups of 64. Each group has a number, which is to be added to each index of the group.
use Rattle.std.specs.Prelude.{ℕ, suc, ◌+◌, ◌*◌, ◌/◌, ◌<◌, ◌≤◌, ◌^◌, List, [], ◌∷◌, Vec, length, slice_index, All}
use Rattle.std.specs.declared.alloc.Global.{Global}

-- each index plus the number that `added` has for its group. The position of the first index is `i`
abbrev pub raised : List ℕ → ℕ → List ℕ → List ℕ
raised added i [] = []
raised added i (n ∷ rest) = (n + slice_index added (i / 64)) ∷ raised added (suc i) rest

-- `added` has a number for each group of `starts`, and each index plus its group's number is below 2^64
pub record AreRaised (starts added : Vec ℕ Global) : Type 0 where
  pub grouped : length starts.items ≤ 64 * length added.items
  pub fit : All (λ n. n < 2 ^ 64) (raised added.items 0 starts.items)
