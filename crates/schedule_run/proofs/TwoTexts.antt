-- Two sources, as the parts of their list, before and after both were read.
use Rattle.std.specs.Prelude.{IfOk, Result, Ok, Err}
use Rattle.std.proofs.Common.{◌≡◌, ◌∙◌, List, [], ◌∷◌, ◌++◌, length, get_or, refl, ap, sym, arith}
use Rattle.std.proofs.Math.ListN.{set}
use Rattle.schedule_run.specs.Run.{AreTexts}

module _ {S : Type 0} where
  pub two_are : (front back : List S) (one other : S) → length front ≡ 1 → length (front ++ back) ≡ 2
      → front ++ back ≡ get_or front 0 one ∷ get_or back 0 other ∷ []
  two_are [] back one other f n = absurd (omega arith)
  two_are (x ∷ []) [] one other f n = absurd (omega arith)
  two_are (x ∷ []) (y ∷ []) one other f n = refl
  two_are (x ∷ []) (y ∷ z ∷ zs) one other f n = absurd (omega arith)
  two_are (x ∷ y ∷ xs) back one other f n = absurd (omega arith)

  pub two_set : (front back : List S) (one other : S) → length front ≡ 1 → length (front ++ back) ≡ 2
      → set front 0 one ++ set back 0 other ≡ one ∷ other ∷ []
  two_set [] back one other f n = absurd (omega arith)
  two_set (x ∷ []) [] one other f n = absurd (omega arith)
  two_set (x ∷ []) (y ∷ []) one other f n = refl
  two_set (x ∷ []) (y ∷ z ∷ zs) one other f n = absurd (omega arith)
  two_set (x ∷ y ∷ xs) back one other f n = absurd (omega arith)

  abbrev pub texts_were : (texts front back : List S) (one other : S) → texts ≡ front ++ back → length front ≡ 1 → length texts ≡ 2 → AreTexts texts
  texts_were texts front back one other parts f n = record {
    topology = get_or front 0 one;
    schedule = get_or back 0 other;
    are = parts ∙ two_are front back one other f (ap length (sym parts) ∙ n);
  }

  abbrev pub texts_are : (texts front back : List S) (one other : S) → texts ≡ front ++ back → length front ≡ 1 → length texts ≡ 2
      → AreTexts (set front 0 one ++ set back 0 other)
  texts_are texts front back one other parts f n = record {
    topology = one;
    schedule = other;
    are = two_set front back one other f (ap length (sym parts) ∙ n);
  }

-- what two clauses say of a result says a third
pub both : {A E : Type 0} (result : Result A E) (P Q R : A → Type 0) → IfOk result P → IfOk result Q → ((a : A) → P a → Q a → R a) → IfOk result R
both (Ok a) P Q R p q f = f a p q
both (Err e) P Q R p q f = tt
