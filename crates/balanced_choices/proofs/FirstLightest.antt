-- The choices of the lightest balance, one balance after the other.
use Rattle.std.proofs.Common.{◌≡◌, ◌<◌, ◌+◌, ◌⊎◌, Bool, true, false, ℕ, suc, List, [], ◌∷◌, inl, inr, refl, sym, ap, subst, ◌∙◌, arith, cond, length, map}
use Rattle.std.specs.Prelude.{nat_lt, slice_index_or}
use Rattle.balanced_choices.specs.Ways.{least_from}
use Rattle.balanced_choices.specs.BalancedChoices.{Balance, after_first, balanced_choices, later_rounds, lightest_choices}
use Rattle.balanced_choices.specs.LeastPeakLaw.{IsFirstLeast}
use Rattle.balanced_choices.specs.LightestLaw.{AreOfLightest, BalancedAreLightest, greatest_load}
use Rattle.balanced_choices.proofs.FirstLeast.{Goes, Stays, found, least_here, one_later}

abbrev none : Balance
none = record { choices = []; loads = [] }

-- they are at the index of the least
at_least : (at : ℕ → List (List ℕ)) (best least k : ℕ) (bs : List Balance)
    → ((j : ℕ) → j < length bs → at (k + j) ≡ (slice_index_or bs j none).choices)
    → lightest_choices (at best) least bs ≡ at (least_from best least k (map greatest_load bs))
at_least at best least k [] each = refl
at_least at best least k (b ∷ bs) each =
    let here : k + 0 ≡ k = omega arith in
    let first : b.choices ≡ at k = sym (each 0 (omega arith)) ∙ ap at here in
    let ns = map greatest_load bs in
    let n = greatest_load b in
    let rest : (j : ℕ) → j < length bs → at (suc k + j) ≡ (slice_index_or bs j none).choices =
    λ j h. let there : suc k + j ≡ k + suc j = omega arith in ap at there ∙ each (suc j) (omega (arith, h)) in
    (λ i. cond (nat_lt n least) ((ap (λ c. lightest_choices c n bs) first ∙ at_least at k n (suc k) bs rest) i)
    (at_least at best least (suc k) bs rest i))
    ∙ both (nat_lt n least) (least_from k n (suc k) ns) (least_from best least (suc k) ns)
  where
    both : (b : Bool) (x y : ℕ) → cond b (at x) (at y) ≡ at (cond b x y)
    both true x y = refl
    both false x y = refl

-- and that is the first of the least
by_cases : (n : ℕ) (ns : List ℕ) → Stays 0 n 1 ns ⊎ Goes 0 n 1 ns → IsFirstLeast (n ∷ ns) (least_from 0 n 1 ns)
by_cases n ns (inl s) =
    subst (IsFirstLeast (n ∷ ns)) (sym s.is)
    (record { within = omega arith; least = least_here ns n s.most; first = λ i h. absurd (omega (arith, h)) })
by_cases n ns (inr g) =
    let there : 1 + g.j ≡ suc g.j = omega arith in
    subst (IsFirstLeast (n ∷ ns)) (sym (g.is ∙ there)) (one_later ns n g.j g.found g.less)

lightest_of : (b : Balance) (bs : List Balance) → AreOfLightest (b ∷ bs) (lightest_choices b.choices (greatest_load b) bs)
lightest_of b bs =
    let ns = map greatest_load bs in
    let n = greatest_load b in
    record {
      round = least_from 0 n 1 ns;
      lightest = by_cases n ns (found 0 n 1 ns);
      choices_are = at_least (λ i. (slice_index_or (b ∷ bs) i none).choices) 0 n 1 bs (λ j h. let there : 1 + j ≡ suc j = omega arith in ap (λ i. (slice_index_or (b ∷ bs) i none).choices) there);
    }

pub balanced_are_lightest : BalancedAreLightest
unfolding balanced_choices
balanced_are_lightest graph sent digits ds =
    let first = after_first graph sent digits ds in
    lightest_of first (later_rounds 2 1 graph sent digits ds first)
