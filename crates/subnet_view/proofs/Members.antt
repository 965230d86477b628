-- More of what a list contains.
use Rattle.std.proofs.Common.{◌≡◌, List, [], ◌∷◌, inl, inr, refl, ap, subst, arith, Bool, true, false, ◌||◌}
use Rattle.std.specs.Prelude.{Contains}
use Rattle.std.specs.List.{list_any}
pub use Rattle.smp_bytes.proofs.Members.{contains_here, contains_later, contains_cases, contains_none, contains_filter, contains-from_filter}

module _ {X : Type 0} where
  -- a list contains what is its first element
  pub contains_first : {y x : X} (xs : List X) → y ≡ x → Contains (y ∷ xs) x
  contains_first xs e = (0, omega arith, e)

  -- a list contains what an equal list does
  pub contains_in : {xs ys : List X} (x : X) → xs ≡ ys → Contains xs x → Contains ys x
  contains_in x e h = subst (λ (zs : List X). Contains zs x) e h

  -- a list contains what equals an element
  pub contains_as : {x y : X} (xs : List X) → x ≡ y → Contains xs x → Contains xs y
  contains_as xs e h = subst (λ (z : X). Contains xs z) e h

  -- where an element passes a test, some element does
  pub list_any_true : (p : X → Bool) (xs : List X) (x : X) → Contains xs x → p x ≡ true → list_any p xs ≡ true
  list_any_true p [] x h e = absurd (contains_none x h)
  list_any_true p (y ∷ xs) x h e =
      elim (p y) as (λ t. p y ≡ t → (t || list_any p xs) ≡ true) [
        | true ↦ λ q. refl
        | false ↦ λ q. (elim (contains_cases y x xs h) [
          | inl i ↦ absurd (cc (ap p i))
          | inr k ↦ list_any_true p xs x k e
        ])
      ] refl

  -- where some element passes a test, there is one that does
  pub list_any_at : (p : X → Bool) (xs : List X) → list_any p xs ≡ true → (x : X) × Contains xs x × (p x ≡ true)
  list_any_at p [] e = absurd (cc)
  list_any_at p (y ∷ xs) e =
      elim (p y) as (λ t. p y ≡ t → (t || list_any p xs) ≡ true → (x : X) × Contains (y ∷ xs) x × (p x ≡ true)) [
        | true ↦ λ q k. (y, contains_here y xs, q)
        | false ↦ λ q k. let i = list_any_at p xs k in (i.0, contains_later y i.0 xs i.1, i.2)
      ] refl e
