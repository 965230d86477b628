-- Sums that are capped at 2^64 - 1.
use Rattle.std.proofs.Common.{◌≡◌, ◌+◌, ◌-◌, ◌*◌, ◌^◌, ℕ, zero, suc, List, [], ◌∷◌, refl, sym, ap, ◌∙◌, arith, min}
use Rattle.std.specs.List.{sum_by}
use Rattle.std.specs.Prelude.{Contains}
use Rattle.std.proofs.lemmas.List.Sums.{sum_by-cons}
use Rattle.smp_bytes.proofs.Members.{contains_here, contains_later}

-- two numbers are equal, or both are at least 2^64 - 1
abbrev pub Same : ℕ → ℕ → Type 0
Same a b = min a (2 ^ 64 - 1) ≡ min b (2 ^ 64 - 1)

pub same_sum : (a b c d : ℕ) → Same a b → Same c d → Same (a + c) (b + d)
same_sum a b c d one other = omega (arith, one, other)

pub same_capped : (a : ℕ) → Same (min a (2 ^ 64 - 1)) a
same_capped a = omega arith

pub same_times : (a b i : ℕ) → Same a b → Same (a * i) (b * i)
same_times a b zero same = (let one : a * zero ≡ 0 = omega arith in let other : b * zero ≡ 0 = omega arith in ap (λ n. min n (2 ^ 64 - 1)) (one ∙ sym other))
same_times a b (suc i) same =
    let one : a * suc i ≡ a + a * i = omega arith in
    let other : b * suc i ≡ b + b * i = omega arith in
    ap (λ n. min n (2 ^ 64 - 1)) one ∙ same_sum a b (a * i) (b * i) same (same_times a b i same) ∙ sym (ap (λ n. min n (2 ^ 64 - 1)) other)

module _ {X : Type 0} where
  pub sum_same : (f g : X → ℕ) (xs : List X) → ((x : X) → Contains xs x → Same (f x) (g x)) → Same (sum_by f xs) (sum_by g xs)
  sum_same f g [] each = refl
  sum_same f g (x ∷ xs) each =
      ap (λ n. min n (2 ^ 64 - 1)) (sum_by-cons f x xs)
      ∙ same_sum (f x) (g x) (sum_by f xs) (sum_by g xs) (each x (contains_here x xs)) (sum_same f g xs (λ y h. each y (contains_later x y xs h)))
      ∙ sym (ap (λ n. min n (2 ^ 64 - 1)) (sum_by-cons g x xs))

  pub sum_equal : (f g : X → ℕ) (xs : List X) → ((x : X) → Contains xs x → f x ≡ g x) → sum_by f xs ≡ sum_by g xs
  sum_equal f g [] each = refl
  sum_equal f g (x ∷ xs) each =
      sum_by-cons f x xs ∙ (λ i. each x (contains_here x xs) i + sum_equal f g xs (λ y h. each y (contains_later x y xs h)) i) ∙ sym (sum_by-cons g x xs)

  pub sum_plus : (f g : X → ℕ) (xs : List X) → sum_by (λ x. f x + g x) xs ≡ sum_by f xs + sum_by g xs
  sum_plus f g [] = refl
  sum_plus f g (x ∷ xs) =
      let rest = sum_plus f g xs in
      omega (arith, sum_by-cons (λ y. f y + g y) x xs, sum_by-cons f x xs, sum_by-cons g x xs, rest)

  pub sum_none : (f : X → ℕ) (xs : List X) → ((x : X) → Contains xs x → f x ≡ 0) → sum_by f xs ≡ 0
  sum_none f [] each = refl
  sum_none f (x ∷ xs) each =
      let rest = sum_none f xs (λ y h. each y (contains_later x y xs h)) in
      let here = each x (contains_here x xs) in
      omega (arith, sum_by-cons f x xs, rest, here)
