-- The elements of a list that pass a test.
use Rattle.std.proofs.Common.{◌≡◌, List, [], ◌∷◌, inl, inr, refl, ap, Bool, true, false, ◌||◌}
use Rattle.std.specs.Prelude.{Contains, Some}
use Rattle.std.specs.List.{list_any, find}
use Rattle.smp_bytes.proofs.Members.{contains_here, contains_later, contains_cases, contains_none}

module _ {X : Type 0} where
  pub list_any_true : (p : X → Bool) (xs : List X) (x : X) → Contains xs x → p x ≡ true → list_any p xs ≡ true
  list_any_true p [] x h e = absurd (contains_none x h)
  list_any_true p (y ∷ xs) x h e =
      elim (p y) as (λ t. p y ≡ t → (t || list_any p xs) ≡ true) [
        | true ↦ λ q. refl
        | false ↦ λ q. (elim (contains_cases y x xs h) [
          | inl i ↦ absurd (cc (ap p i))
          | inr k ↦ list_any_true p xs x k e
        ])
      ] refl

  pub record IsFound (p : X → Bool) (xs : List X) : Type 0 where
    pub x : X
    pub is : find p xs ≡ Some x
    pub there : Contains xs x
    pub passes : p x ≡ true

  pub found : (p : X → Bool) (xs : List X) → list_any p xs ≡ true → IsFound p xs
  found p [] e = absurd (cc)
  found p (y ∷ xs) e =
      elim (p y) as (λ t. p y ≡ t → (t || list_any p xs) ≡ true → IsFound p (y ∷ xs)) [
        | true ↦ λ q k. record { x = y; is = rw q refl; there = contains_here y xs; passes = q }
        | false ↦ λ q k. let rest = found p xs k in
            record { x = rest.x; is = rw q rest.is; there = contains_later y rest.x xs rest.there; passes = rest.passes }
      ] refl e
