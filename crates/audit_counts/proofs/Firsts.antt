-- The first elements of a list that pass a test, with one element more.
use Rattle.std.proofs.Common.{◌≡◌, ◌<◌, ◌≤◌, ◌+◌, ℕ, List, [], ◌∷◌, ◌++◌, inl, inr, refl, sym, ap, ◌∙◌, arith, Bool, true, false, cond, length, take, get_or}
use Rattle.std.specs.Prelude.{count_by, filter, nat_lt}
use Rattle.std.proofs.Math.Nat.{add-zero}
use Rattle.std.proofs.lemmas.Bool.{cases_lt, lt-ltb, le-ltb}
use Rattle.std.proofs.lemmas.List.{append-nil, length-append, length-take-le, take_all, take_more, take-append-le}
use Rattle.std.proofs.lemmas.List.Elements.{filter-append}
use Rattle.std.proofs.lemmas.List.Sums.{sum_by_push}
use Rattle.audit_counts.specs.FirstFew.{Listed, first_of, listed, listed_of, first_few}

module _ {X : Type 0} (most : ℕ) where
  -- the first elements, `most` at most, of a list with one element more
  take_one : (ys : List X) (x : X) → take most (ys ++ x ∷ []) ≡ first_few most (take most ys) x
  take_one ys x =
      elim (cases_lt (length ys) most) [
        | inl h ↦
            let all : take most ys ≡ ys = take_all most ys (omega arith) in
            let few : nat_lt (length ys) most ≡ true = lt-ltb (length ys) most h in
            take_all most (ys ++ x ∷ []) (omega (arith, length-append ys (x ∷ []))) ∙ sym (ap (λ t. cond t (ys ++ x ∷ []) ys) few)
            ∙ sym (ap (λ zs. first_few most zs x) all)
        | inr h ↦
            let many : nat_lt (length (take most ys)) most ≡ false = le-ltb (length (take most ys)) most (omega (arith, length-take-le most ys h)) in
            take-append-le most ys (x ∷ []) h ∙ sym (ap (λ t. cond t (take most ys ++ x ∷ []) (take most ys)) many)
      ]

  pub first_more : (p : X → Bool) (xs : List X) (x : X) → first_of most p (xs ++ x ∷ []) ≡ cond (p x) (first_few most (first_of most p xs) x) (first_of most p xs)
  first_more p xs x =
      ap (λ ys. take most ys) (filter-append p xs (x ∷ []))
      ∙ (elim (p x) as (λ t. take most (filter p xs ++ cond t (x ∷ []) []) ≡ cond t (first_few most (first_of most p xs) x) (first_of most p xs)) [
        | true ↦ take_one (filter p xs) x
        | false ↦ ap (λ ys. take most ys) (append-nil (filter p xs))
      ])

  -- the same with how many there are: one more passes, or it does not
  pub listed_more : (p : X → Bool) (xs : List X) (x : X) → listed_of most p (xs ++ x ∷ []) ≡ cond (p x) (listed (listed_of most p xs) x) (listed_of most p xs)
  listed_more p xs x =
      let counted : count_by p (xs ++ x ∷ []) ≡ count_by p xs + cond (p x) 1 0 = sum_by_push (λ (y : X). cond (p y) 1 0) xs x in
      (λ i. record { most = most; first = first_more p xs x i; count = counted i })
      ∙ (elim (p x) as
      (λ t. ◌≡◌ {A = Listed X} (record { most = most; first = cond t (first_few most (first_of most p xs) x) (first_of most p xs); count = count_by p xs + cond t 1 0 })
      (cond t (listed (listed_of most p xs) x) (listed_of most p xs))) [
        | true ↦ refl
        | false ↦ λ i. record { most = most; first = first_of most p xs; count = add-zero (count_by p xs) i }
      ])

  -- the element at an index passes, and is told
  pub told_more : (p : X → Bool) (xs : List X) (i : ℕ) (x : X) (told new : Listed X) → told ≡ listed_of most p (take i xs) → i < length xs → x ≡ get_or xs i x
      → p x ≡ true → new ≡ listed told x → new ≡ listed_of most p (take (i + 1) xs)
  told_more p xs i x told new h less is passes e =
      e ∙ ap (λ l. listed l x) h ∙ sym (ap (λ t. cond t (listed (listed_of most p (take i xs)) x) (listed_of most p (take i xs))) passes)
      ∙ sym (listed_more p (take i xs) x) ∙ sym (ap (listed_of most p) (take_more xs i x less ∙ ap (λ y. take i xs ++ y ∷ []) (sym is)))

  -- it does not, and is not told
  pub told_same : (p : X → Bool) (xs : List X) (i : ℕ) (x : X) (told new : Listed X) → told ≡ listed_of most p (take i xs) → i < length xs → x ≡ get_or xs i x
      → p x ≡ false → new ≡ told → new ≡ listed_of most p (take (i + 1) xs)
  told_same p xs i x told new h less is fails e =
      e ∙ h ∙ sym (ap (λ t. cond t (listed (listed_of most p (take i xs)) x) (listed_of most p (take i xs))) fails)
      ∙ sym (listed_more p (take i xs) x) ∙ sym (ap (listed_of most p) (take_more xs i x less ∙ ap (λ y. take i xs ++ y ∷ []) (sym is)))

  -- all were looked at
  pub told_all : (p : X → Bool) (xs : List X) (i : ℕ) (told : Listed X) → told ≡ listed_of most p (take i xs) → length xs ≤ i → told ≡ listed_of most p xs
  told_all p xs i told h past = h ∙ ap (listed_of most p) (take_all i xs past)
