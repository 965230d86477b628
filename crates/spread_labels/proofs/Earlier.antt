-- The earliest of vertices, one after the other.
use Rattle.std.proofs.Common.{◌≡◌, ◌+◌, ℕ, zero, suc, List, [], ◌∷◌, ◌++◌, refl, ap, ◌∙◌, arith, add-one, append-nil, true, false, Bool, cond, map}
use Rattle.std.proofs.lemmas.List.{map-append}
use Rattle.std.specs.Prelude.{◌<◌, MatchOption, Option, None, Some, filter}
use Rattle.spread_labels.specs.declared.growth.Stage.{Stage}
use Rattle.spread_labels.specs.Orders.{earliest, numbers_from}
use Rattle.spread_labels.specs.Growth.{earlier_of, earliest_at, earliest_of, is_stage, stage_at}

pub numbers_more : (k n : ℕ) → numbers_from k (suc n) ≡ numbers_from k n ++ (k + n) ∷ []
numbers_more k zero = let is : k ≡ k + 0 = omega arith in ap (λ x. x ∷ []) is
numbers_more k (suc n) =
    let is : suc k + n ≡ k + suc n = omega arith in
    ap (λ xs. k ∷ xs) (numbers_more (suc k) n ∙ ap (λ x. numbers_from (suc k) n ++ x ∷ []) is)

pub filter_more : {X : Type 0} (p : X → Bool) (xs : List X) (y : X) → filter p (xs ++ y ∷ []) ≡ filter p xs ++ cond (p y) (y ∷ []) []
filter_more p [] y = refl
filter_more p (x ∷ xs) y =
    elim (p x) as (λ b. cond b (x ∷ filter p (xs ++ y ∷ [])) (filter p (xs ++ y ∷ [])) ≡ cond b (x ∷ filter p xs) (filter p xs) ++ cond (p y) (y ∷ []) []) [
      | true ↦ ap (λ l. x ∷ l) (filter_more p xs y)
      | false ↦ filter_more p xs y
    ]

earliest_then : (before : ℕ → ℕ → Bool) (x : ℕ) (xs : List ℕ) (y : ℕ) → earliest before x (xs ++ y ∷ []) ≡ earlier_of before (Some (earliest before x xs)) y
earliest_then before x [] y = refl
earliest_then before x (z ∷ xs) y = earliest_then before (cond (before z x) z x) xs y

pub earliest_more : (before : ℕ → ℕ → Bool) (xs : List ℕ) (y : ℕ) → earliest_of before (xs ++ y ∷ []) ≡ Some (earlier_of before (earliest_of before xs) y)
earliest_more before [] y = refl
earliest_more before (x ∷ xs) y = ap Some (earliest_then before x xs y)

-- one number more that passes a test or not
pub filter_grown : (test : ℕ → Bool) (n : ℕ) → filter test (numbers_from 0 (n + 1)) ≡ filter test (numbers_from 0 n) ++ cond (test n) (n ∷ []) []
filter_grown test n =
    let is : 0 + n ≡ n = omega arith in
    ap (filter test) (ap (numbers_from 0) (add-one n) ∙ numbers_more 0 n ∙ ap (λ x. numbers_from 0 n ++ x ∷ []) is)
    ∙ filter_more test (numbers_from 0 n) n

-- what is made of one number more
pub mapped_grown : {X : Type 0} (f : ℕ → X) (n : ℕ) → map f (numbers_from 0 (n + 1)) ≡ map f (numbers_from 0 n) ++ f n ∷ []
mapped_grown f n =
    let is : 0 + n ≡ n = omega arith in
    ap (map f) (ap (numbers_from 0) (add-one n) ∙ numbers_more 0 n ∙ ap (λ x. numbers_from 0 n ++ x ∷ []) is) ∙ map-append f (numbers_from 0 n) (n ∷ [])

module _ (before : ℕ → ℕ → Bool) (test : ℕ → Bool) (n : ℕ) where
  -- one more number that passes, or does not
  pub earliest_passing : test n ≡ true
      → earliest_of before (filter test (numbers_from 0 (n + 1))) ≡ Some (earlier_of before (earliest_of before (filter test (numbers_from 0 n))) n)
  earliest_passing is = ap (earliest_of before) (filter_grown test n ∙ ap (λ b. filter test (numbers_from 0 n) ++ cond b (n ∷ []) []) is)
      ∙ earliest_more before (filter test (numbers_from 0 n)) n

  pub earliest_failing : test n ≡ false → earliest_of before (filter test (numbers_from 0 (n + 1))) ≡ earliest_of before (filter test (numbers_from 0 n))
  earliest_failing is =
      ap (earliest_of before) (filter_grown test n ∙ ap (λ b. filter test (numbers_from 0 n) ++ cond b (n ∷ []) []) is ∙ append-nil (filter test (numbers_from 0 n)))

-- one more vertex at the stage, or at another
pub earliest_with : (before : ℕ → ℕ → Bool) (stages : List Stage) (stage : Stage) (n : ℕ) → is_stage (stage_at stages n) stage ≡ true
    → earliest_at before stages stage (n + 1) ≡ Some (earlier_of before (earliest_at before stages stage n) n)
earliest_with before stages stage n is = earliest_passing before (λ s. is_stage (stage_at stages s) stage) n is

pub earliest_without : (before : ℕ → ℕ → Bool) (stages : List Stage) (stage : Stage) (n : ℕ) → is_stage (stage_at stages n) stage ≡ false
    → earliest_at before stages stage (n + 1) ≡ earliest_at before stages stage n
earliest_without before stages stage n is = earliest_failing before (λ s. is_stage (stage_at stages s) stage) n is

-- a vertex of so many, if one was found
abbrev pub IsBelow : ℕ → Option ℕ → Type 0
IsBelow n o = MatchOption o (Unit {0}) (λ x. x < n)

-- the earlier of two vertices is one of them
pub earlier_below : (before : ℕ → ℕ → Bool) (found : Option ℕ) (y n : ℕ) → IsBelow n found → y < n → earlier_of before found y < n
earlier_below before None y n h l = l
earlier_below before (Some x) y n h l = elim (before y x) as (λ b. cond b y x < n) [ true ↦ l | false ↦ h ]
