-- The elements of a list in ascending order, each once.
use Rattle.std.specs.Prelude.{ℕ, List, [], ◌∷◌}
use Rattle.std.specs.declared.cmp.Ordering.{Ordering}
use Rattle.std.specs.declared.cmp.Ordering.TheVariants.{Less, Equal, Greater}

-- `y` ∷ `ys` with `x` inserted, by how `x` compares with `y`: before `y` if `x` is less, and not at all if `x` is
-- equal; if `x` is greater, `y` and then `later`
abbrev pub put_beside : {X : Type 0} → Ordering → X → X → List X → List X → List X
put_beside Less x y ys later = x ∷ y ∷ ys
put_beside Equal x y ys later = y ∷ ys
put_beside Greater x y ys later = y ∷ later

-- the list, which must be in ascending order, with `x` inserted in this order, unless the list has an equal element
-- already
abbrev pub put_once : {X : Type 0} → (X → X → Ordering) → X → List X → List X
put_once cmp x [] = x ∷ []
put_once cmp x (y ∷ ys) = put_beside (cmp x y) x y ys (put_once cmp x ys)

-- the elements of a list in ascending order according to `cmp`, each once
abbrev pub each_once : {X : Type 0} → (X → X → Ordering) → List X → List X
each_once cmp [] = []
each_once cmp (x ∷ xs) = put_once cmp x (each_once cmp xs)
