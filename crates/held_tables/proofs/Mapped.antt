-- A function mapped over the first elements of a list, and then over one element more.
use Rattle.std.proofs.Common.{◌≡◌, ℕ, zero, suc, ◌+◌, ◌<◌, List, [], ◌∷◌, ◌++◌, length, take, refl, ap, ◌∙◌, arith}
use Rattle.std.specs.Prelude.{map, slice_index_or}

pub mapped_more : {X Y : Type 0} (f : X → Y) (xs : List X) (i : ℕ) (d : X) → i < length xs
    → map f (take (i + 1) xs) ≡ map f (take i xs) ++ f (slice_index_or xs i d) ∷ []
mapped_more f [] i d h = absurd (omega arith)
mapped_more f (x ∷ xs) zero d h = refl
mapped_more f (x ∷ xs) (suc i) d h =
    let e : suc i + 1 ≡ suc (i + 1) = omega arith in
    ap (λ n. map f (take n (x ∷ xs))) e ∙ ap (λ ys. f x ∷ ys) (mapped_more f xs i d (omega arith))
