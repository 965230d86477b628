-- The greatest of numbers.
use Rattle.std.proofs.Common.{◌≡◌, ◌<◌, ◌≤◌, ◌+◌, ◌++◌, ℕ, zero, suc, List, [], ◌∷◌, refl, ap, ◌∙◌, arith, Bool, true, false, cond, length, map, get_or, max, add-one, append-nil}
use Rattle.std.proofs.lemmas.List.{map-append}
use Rattle.std.specs.Prelude.{filter}
use Rattle.spread_labels.specs.Level.{greatest}
use Rattle.spread_labels.specs.Orders.{numbers_from}
use Rattle.spread_labels.proofs.Earlier.{numbers_more, filter_more}

pub greatest_more : (n : ℕ) (ms : List ℕ) (m : ℕ) → greatest n (ms ++ m ∷ []) ≡ max (greatest n ms) m
greatest_more n [] m = refl
greatest_more n (k ∷ ms) m = greatest_more (max n k) ms m

-- it is at least the first of them, and each other
pub greatest_from : (n : ℕ) (ms : List ℕ) → n ≤ greatest n ms
greatest_from n [] = omega arith
greatest_from n (m ∷ ms) = let more = greatest_from (max n m) ms in omega arith

pub greatest_all : (n : ℕ) (ms : List ℕ) (i d : ℕ) → i < length ms → get_or ms i d ≤ greatest n ms
greatest_all n [] i d h = absurd (omega arith)
greatest_all n (m ∷ ms) zero d h = let more = greatest_from (max n m) ms in omega arith
greatest_all n (m ∷ ms) (suc i) d h = greatest_all (max n m) ms i d (omega arith)

-- one more number, where it passes and where not
module _ (f : ℕ → ℕ) (test : ℕ → Bool) (n : ℕ) where
  abbrev so_far : ℕ → ℕ
  so_far k = greatest 1 (map f (filter test (numbers_from 0 k)))

  all : (b : Bool) → test n ≡ b → so_far (n + 1) ≡ greatest 1 (map f (filter test (numbers_from 0 n)) ++ map f (cond b (n ∷ []) []))
  all b is =
      let last : 0 + n ≡ n = omega arith in
      ap (λ xs. greatest 1 (map f (filter test xs))) (ap (numbers_from 0) (add-one n) ∙ numbers_more 0 n ∙ ap (λ x. numbers_from 0 n ++ x ∷ []) last)
      ∙ ap (λ xs. greatest 1 (map f xs)) (filter_more test (numbers_from 0 n) n ∙ ap (λ c. filter test (numbers_from 0 n) ++ cond c (n ∷ []) []) is)
      ∙ ap (greatest 1) (map-append f (filter test (numbers_from 0 n)) (cond b (n ∷ []) []))

  pub greatest_with : test n ≡ true → so_far (n + 1) ≡ max (so_far n) (f n)
  greatest_with is = all true is ∙ greatest_more 1 (map f (filter test (numbers_from 0 n))) (f n)

  pub greatest_without : test n ≡ false → so_far (n + 1) ≡ so_far n
  greatest_without is = all false is ∙ ap (greatest 1) (append-nil (map f (filter test (numbers_from 0 n))))

pub max_turned : (a b : ℕ) → max a b ≡ max b a
max_turned a b = omega arith
