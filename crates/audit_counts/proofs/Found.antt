-- What a search finds is there.
use Rattle.std.proofs.Common.{◌≡◌, ℕ, List, length, true}
use Rattle.std.specs.Prelude.{Contains, IfOk, slice_index_or}
use Rattle.std.specs.List.{HoldsAt}
use Rattle.std.specs.List.Sorted.{IsSearchInRange}
use Rattle.std.specs.Result.{is_ok}
use Rattle.std.specs.declared.cmp.Ordering.{Ordering}
use Rattle.std.specs.declared.cmp.Ordering.TheVariants.{Equal}
use Rattle.std.specs.declared.result.Result.{Result}
use Rattle.std.specs.declared.result.Result.TheVariants.{Ok, Err}
use Rattle.std.specs.FinMap.{IsAntisymmetric}

pub found_there : {X : Type 0} (cmp : X → X → Ordering) → IsAntisymmetric cmp → (x : X) (xs : List X) (r : Result ℕ ℕ) → IsSearchInRange r (length xs)
    → IfOk r (HoldsAt (λ y. cmp y x ≡ Equal) xs) → is_ok r ≡ true → Contains xs x
found_there cmp exact x xs (Ok i) bound found is = (i, bound, exact (slice_index_or xs i x) x (found x))
found_there cmp exact x xs (Err i) bound found is = absurd (cc)
