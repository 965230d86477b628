-- Tests of elements, and of two numbers.
use Rattle.std.proofs.Common.{◌≡◌, ◌==◌, ℕ, List, [], ◌∷◌, refl, true, false, Bool, cond}
use Rattle.std.proofs.lemmas.Bool.{eqb-true}
use Rattle.std.specs.Prelude.{Contains, filter}
use Rattle.smp_bytes.proofs.Members.{contains_here, contains_later}

pub same_filter : {X : Type 0} (p q : X → Bool) (xs : List X) → ((x : X) → Contains xs x → p x ≡ q x) → filter p xs ≡ filter q xs
same_filter p q [] same = refl
same_filter p q (x ∷ xs) same =
    (λ i. cond (same x (contains_here x xs) i) (x
    ∷ same_filter p q xs (λ y h. same y (contains_later x y xs h)) i) (same_filter p q xs (λ y h. same y (contains_later x y xs h)) i))

pub other_test : (a b : ℕ) → (a ≡ b → ⊥) → (a == b) ≡ false
other_test a b other =
    elim (a == b) as (λ r. (a == b) ≡ r → r ≡ false) [ true ↦ λ e. absurd (other (eqb-true a b e)) | false ↦ λ e. refl ] refl
