-- The inputs: the text that a rule takes, if it takes one, and the lines.
use Rattle.std.proofs.Common.{◌≡◌, ◌∙◌, ◌+◌, ℕ, List, [], ◌∷◌, ◌++◌, length, length-append, get_or, refl, ap, arith}
use Rattle.std.proofs.Math.ListN.{set}
use Rattle.serve_task.specs.RunServe.{Inputs}

module _ {S : Type 0} where
  pub one_only : (back : List S) (other : S) → length back ≡ 1 → back ≡ get_or back 0 other ∷ []
  one_only [] other n = absurd (omega (arith, n))
  one_only (x ∷ []) other n = refl
  one_only (x ∷ y ∷ xs) other n = absurd (omega (arith, n))

  pub one_set : (back : List S) (other : S) → length back ≡ 1 → set back 0 other ≡ other ∷ []
  one_set [] other n = absurd (omega (arith, n))
  one_set (x ∷ []) other n = refl
  one_set (x ∷ y ∷ xs) other n = absurd (omega (arith, n))

  pub the_one : (back : List S) → length back ≡ 1 → (x : S) × (back ≡ x ∷ [])
  the_one [] n = absurd (omega (arith, n))
  the_one (x ∷ []) n = (x, refl)
  the_one (x ∷ y ∷ xs) n = absurd (omega (arith, n))

  -- behind as many texts as there are stands one input
  pub one_behind : (inputs front back : List S) (count : ℕ) → inputs ≡ front ++ back → length front ≡ count → length inputs ≡ count + 1 → length back ≡ 1
  one_behind inputs front back count parts texts all =
      let whole = ap length parts in
      omega (arith, whole, length-append front back, texts, all)

  abbrev pub inputs_of : (inputs front back : List S) → inputs ≡ front ++ back → (x : S) → back ≡ x ∷ [] → Inputs inputs
  inputs_of inputs front back parts x is = record { texts = front; lines = x; are = parts ∙ ap (λ xs. front ++ xs) is }

  abbrev pub inputs_were : (inputs front back : List S) (other : S) → inputs ≡ front ++ back → length back ≡ 1 → Inputs inputs
  inputs_were inputs front back other parts n =
      record { texts = front; lines = get_or back 0 other; are = parts ∙ ap (λ xs. front ++ xs) (one_only back other n) }

  abbrev pub inputs_are : (front back : List S) (new : S) → length back ≡ 1 → Inputs (front ++ set back 0 new)
  inputs_are front back new n = record { texts = front; lines = new; are = ap (λ xs. front ++ xs) (one_set back new n) }
