-- Lists whose items are in an order, and the index at which a test changes from true to false.
use Rattle.std.specs.Prelude.{◌≡◌, ℕ, ◌≤◌, Bool, true, false, List, [], ◌∷◌, length}
use Rattle.std.specs.List.{AllByRecursion}
use Rattle.std.specs.List.Sorted.{IsPartitionPoint}

-- each item stands in the relation `R` to all later ones
abbrev pub AreOrdered : {T : Type 0} → (T → T → Type 0) → List T → Type 0
AreOrdered R [] = Unit {0}
AreOrdered R (x ∷ xs) = AllByRecursion (R x) xs × AreOrdered R xs

-- each item before `index` passes `test`, and neither the item at `index` nor any later item does. `index` is at most
-- the number of items
pub record IsIndex {T : Type 0} (test : T → Bool) (items : List T) (index : ℕ) : Type 0 where
  pub within : index ≤ length items
  pub parts : IsPartitionPoint (λ x. test x ≡ true) (λ x. test x ≡ false) items index
