-- What is made of one number more.
use Rattle.std.proofs.Common.{◌≡◌, ◌+◌, ◌++◌, ℕ, [], ◌∷◌, ap, ◌∙◌, arith, add-one, map}
use Rattle.std.proofs.lemmas.List.{map-append}
use Rattle.spread_labels.specs.Orders.{numbers_from}
use Rattle.spread_labels.proofs.Earlier.{numbers_more}

pub made_more : {X : Type 0} (f : ℕ → X) (n : ℕ) → map f (numbers_from 0 (n + 1)) ≡ map f (numbers_from 0 n) ++ f n ∷ []
made_more f n =
    let is : 0 + n ≡ n = omega arith in
    ap (map f) (ap (numbers_from 0) (add-one n) ∙ numbers_more 0 n) ∙ map-append f (numbers_from 0 n) ((0 + n) ∷ [])
    ∙ ap (λ k. map f (numbers_from 0 n) ++ f k ∷ []) is
