-- How many elements of a list pass a test.
use Rattle.std.proofs.Common.{◌≡◌, ◌≤◌, ◌<◌, suc, List, [], ◌∷◌, inl, inr, refl, sym, ap, ◌∙◌, subst, arith, Bool, true, false, cond, map, length}
use Rattle.std.specs.Prelude.{filter, Contains}
use Rattle.smp_bytes.proofs.Members.{contains_cases, contains_none}

module _ {X : Type 0} (p q : X → Bool) (more : (x : X) → p x ≡ true → q x ≡ true) where
  pub filtered_le : (xs : List X) → length (filter p xs) ≤ length (filter q xs)
  filtered_le [] = omega arith
  filtered_le (x ∷ xs) =
      let i = filtered_le xs in
      elim (p x) as (λ s. p x ≡ s → length (cond s (x ∷ filter p xs) (filter p xs)) ≤ length (filter q (x ∷ xs))) [
        | true ↦ λ e. subst (λ (t : Bool). suc (length (filter p xs)) ≤ length (cond t (x ∷ filter q xs) (filter q xs))) (sym (more x e)) (omega arith)
        | false ↦ λ e. (elim (q x) as (λ t. length (filter p xs) ≤ length (cond t (x ∷ filter q xs) (filter q xs))) [ true ↦ omega arith | false ↦ i ])
      ] refl

  -- fewer pass the narrower test, where some element tells them apart
  pub filtered_less : (xs : List X) (x : X) → Contains xs x → p x ≡ false → q x ≡ true → length (filter p xs) < length (filter q xs)
  filtered_less [] x h a b = absurd (contains_none x h)
  filtered_less (y ∷ xs) x h a b =
      let le = filtered_le xs in
      elim (contains_cases y x xs h) [
        | inl e ↦
            subst (λ (s : Bool). length (cond s (y ∷ filter p xs) (filter p xs)) < length (filter q (y ∷ xs))) (sym (ap p e ∙ a))
            (subst (λ (t : Bool). length (filter p xs) < length (cond t (y ∷ filter q xs) (filter q xs))) (sym (ap q e ∙ b)) (omega arith))
        | inr k ↦
            let i = filtered_less xs x k a b in
            (elim (p y) as (λ s. p y ≡ s → length (cond s (y ∷ filter p xs) (filter p xs)) < length (filter q (y ∷ xs))) [
              | true ↦ λ e. subst (λ (t : Bool). suc (length (filter p xs)) < length (cond t (y ∷ filter q xs) (filter q xs))) (sym (more y e)) (omega arith)
              | false ↦ λ e. (elim (q y) as (λ t. length (filter p xs) < length (cond t (y ∷ filter q xs) (filter q xs))) [ true ↦ omega arith | false ↦ i ])
            ] refl)
      ]

pub filtered_all : {X : Type 0} (p : X → Bool) (xs : List X) → length (filter p xs) ≤ length xs
filtered_all p [] = omega arith
filtered_all p (x ∷ xs) =
    let i = filtered_all p xs in
    elim (p x) as (λ s. length (cond s (x ∷ filter p xs) (filter p xs)) ≤ suc (length xs)) [ true ↦ omega arith | false ↦ omega arith ]

pub length_map : {X Y : Type 0} (f : X → Y) (xs : List X) → length (map f xs) ≡ length xs
length_map f [] = refl
length_map f (x ∷ xs) = ap suc (length_map f xs)
