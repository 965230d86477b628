-- Sums over a list without an element that occurs once.
use Rattle.std.proofs.Common.{◌≡◌, ◌+◌, ◌*◌, ℕ, suc, Bool, true, false, cond, List, [], ◌∷◌, inl, inr, refl, ap, ◌∙◌, subst, arith}
use Rattle.std.specs.Prelude.{Contains, count_by, filter, not, ◌&&◌}
use Rattle.std.specs.List.{AllPairs, sum_by}
use Rattle.std.proofs.lemmas.List.Sums.{sum_by-cons}
use Rattle.smp_bytes.proofs.Members.{contains_here, contains_later, contains_cases, contains_none}

-- tests that agree on the elements of a list keep the same of them
pub filters_agree : {X : Type 0} (p q : X → Bool) (xs : List X) → ((x : X) → Contains xs x → p x ≡ q x) → filter p xs ≡ filter q xs
filters_agree p q [] same = refl
filters_agree p q (x ∷ xs) same =
    let here = same x (contains_here x xs) in
    let rest = filters_agree p q xs (λ y h. same y (contains_later x y xs h)) in
    λ i. cond (here i) (x ∷ rest i) (rest i)

module _ {X : Type 0} (e : X) (same : X → Bool) (exact : (x : X) → same x ≡ true → x ≡ e) where
  counted_here : (x : X) (xs : List X) → same x ≡ true → count_by same (x ∷ xs) ≡ count_by same xs + 1
  counted_here x xs is =
      let split = sum_by-cons (λ (y : X). cond (same y) 1 0) x xs in
      let one : ◌≡◌ {A = ℕ} (cond (same x) 1 0) 1 = ap (λ t. cond t 1 0) is in
      omega (arith, split, one)

  counted_later : (x : X) (xs : List X) → same x ≡ false → count_by same (x ∷ xs) ≡ count_by same xs
  counted_later x xs is =
      let split = sum_by-cons (λ (y : X). cond (same y) 1 0) x xs in
      let none : ◌≡◌ {A = ℕ} (cond (same x) 1 0) 0 = ap (λ t. cond t 1 0) is in
      omega (arith, split, none)

  not_counted : (xs : List X) → (Contains xs e → ⊥) → count_by same xs ≡ 0
  not_counted [] none = refl
  not_counted (x ∷ xs) none =
      elim (same x) as (λ t. same x ≡ t → count_by same (x ∷ xs) ≡ 0) [
        | true ↦ λ is. absurd (none (subst (λ (y : X). Contains (x ∷ xs) y) (exact x is) (contains_here x xs)))
        | false ↦ λ is. counted_later x xs is ∙ not_counted xs (λ h. none (contains_later x e xs h))
      ] refl

  -- an element that does not come before itself occurs once if all elements come before each other
  pub stands_once : (IsBefore : X → X → Type 0) → same e ≡ true → (IsBefore e e → ⊥) → (xs : List X) → AllPairs IsBefore xs → Contains xs e → count_by same xs
      ≡ 1
  stands_once IsBefore itself never [] pairs h = absurd (contains_none e h)
  stands_once IsBefore itself never (x ∷ xs) pairs h =
      elim (same x) as (λ t. same x ≡ t → count_by same (x ∷ xs) ≡ 1) [
        | true ↦ λ is.
            let none = not_counted xs (λ k. never (subst (λ (y : X). IsBefore y e) (exact x is)
            (subst (λ (y : X). IsBefore x y) k.2 (pairs 0 (suc k.0) e (omega arith) (omega (arith, k.1)))))) in
            counted_here x xs is ∙ omega (arith, none)
        | false ↦ λ is. (elim (contains_cases x e xs h) [
          | inl i ↦ absurd (cc (ap same i))
          | inr k ↦ counted_later x xs is ∙ stands_once IsBefore itself never xs later k
        ])
      ] refl
    where
      later : AllPairs IsBefore xs
      later i j d less within = pairs (suc i) (suc j) d (omega arith) (omega arith)

  module _ (number : X → ℕ) (p : X → Bool) (passes : p e ≡ true) where
    abbrev other : X → Bool
    other x = p x && not (same x)

    abbrev over : (X → Bool) → List X → ℕ
    over test xs = sum_by number (filter test xs)

    kept : (test : X → Bool) (x : X) (xs : List X) → test x ≡ true → over test (x ∷ xs) ≡ number x + over test xs
    kept test x xs is = ap (λ t. sum_by number (cond t (x ∷ filter test xs) (filter test xs))) is ∙ sum_by-cons number x (filter test xs)

    left : (test : X → Bool) (x : X) (xs : List X) → test x ≡ false → over test (x ∷ xs) ≡ over test xs
    left test x xs is = ap (λ t. sum_by number (cond t (x ∷ filter test xs) (filter test xs))) is

    -- the sum is that over the others and, as often as it stands there, the element's own number
    pub sum_with : (xs : List X) → over p xs ≡ over other xs + count_by same xs * number e
    sum_with [] = omega arith
    sum_with (x ∷ xs) =
        let rest = sum_with xs in
        elim (same x) as (λ t. same x ≡ t → over p (x ∷ xs) ≡ over other (x ∷ xs) + count_by same (x ∷ xs) * number e) [
          | true ↦ λ is.
              let at = exact x is in
              let here = kept p x xs (ap p at ∙ passes) in
              let own : number x ≡ number e = ap number at in
              let gone = left other x xs (ap (λ t. p x && not t) is ∙ ap (λ t. t && false) (ap p at ∙ passes)) in
              let times : count_by same (x ∷ xs) * number e ≡ count_by same xs * number e + number e =
              ap (λ n. n * number e) (counted_here x xs is) ∙ omega arith in
              omega (arith, rest, here, own, gone, times)
          | false ↦ λ is.
              let times : count_by same (x ∷ xs) * number e ≡ count_by same xs * number e = ap (λ n. n * number e) (counted_later x xs is) in
              (elim (p x) as (λ t. p x ≡ t → over p (x ∷ xs) ≡ over other (x ∷ xs) + count_by same (x ∷ xs) * number e) [
                | true ↦ λ does.
                    let here = kept p x xs does in
                    let there = kept other x xs (ap (λ t. t && not (same x)) does ∙ ap not is) in
                    omega (arith, rest, here, there, times)
                | false ↦ λ does_not.
                    let here = left p x xs does_not in
                    let there = left other x xs (ap (λ t. t && not (same x)) does_not) in
                    omega (arith, rest, here, there, times)
              ] refl)
        ] refl
