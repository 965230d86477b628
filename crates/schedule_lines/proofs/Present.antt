-- An index below the length of a list has an item.
use Rattle.std.proofs.Common.{◌≡◌, ◌∙◌, ◌⊎◌, inl, inr, ℕ, ◌<◌, ◌≤◌, List, Option, None, Some, length, get_or, refl, arith}
use Rattle.std.specs.Borrow.{Bor}
use Rattle.std.specs.List.{slice_get}
use Rattle.std.specs.Option.{IsSome, option_copied}
use Rattle.std.proofs.lemmas.Option.{slice_get_cases}

pub is_present : {X : Type 0} (xs : List X) (o : Option (Bor X)) (i : ℕ) → option_copied o ≡ slice_get xs i → i < length xs → IsSome o
is_present xs (Some x) i e h = refl
is_present {X} xs None i e h = by_case (slice_get_cases xs i).1
  where
    none : Option (Bor X)
    none = None

    by_case : ((x : X) × (i < length xs) × (slice_get xs i ≡ Some x) × (get_or xs i x ≡ x)) ⊎ ((length xs ≤ i) × (slice_get xs i ≡ None)) → IsSome none
    by_case (inl (x, within, is, same)) = let found : ◌≡◌ {A = Option X} None (Some x) = e ∙ is in absurd (cc)
    by_case (inr (past, is)) = absurd (omega arith)
