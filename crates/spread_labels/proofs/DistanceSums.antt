-- Means, and sums of distances.
use Rattle.std.proofs.Common.{◌≡◌, ◌<◌, ◌+◌, ◌*◌, ◌/◌, ◌%◌, ◌^◌, ◌++◌, ℕ, zero, suc, List, [], ◌∷◌, refl, sym, ap, ◌∙◌, subst, arith, length, drop, get_or, All, map, add-one}
use Rattle.std.proofs.Math.Nat.{mul-add-div_right, mul_assoc}
use Rattle.std.proofs.Math.Seq.{drop-cons}
use Rattle.std.proofs.lemmas.List.{get_or_default, map-append}
use Rattle.std.proofs.lemmas.Nat.{div-add-mod'}
use Rattle.std.specs.Prelude.{Option, None, Some}
use Rattle.port_graph.specs.declared.edge.Edge.{Edge}
use Rattle.port_graph.specs.Heads.{heads, AreDistances}
use Rattle.port_graph.specs.Walks.{has_walk}
use Rattle.port_graph.proofs.WalkLemmas.{least_found}
use Rattle.spread_labels.specs.declared.distance_class.DistanceSum.{DistanceSum}
use Rattle.spread_labels.specs.Orders.{numbers_from}
use Rattle.spread_labels.proofs.Earlier.{numbers_more}
use Rattle.spread_labels.specs.DistanceClass.{quarters_of, no_distances, with_distance, with_distances, distance_sum, IsDistanceSumOf, AreWithDistances}

-- four times a mean is four times the whole and the rest
pub quarters_in_parts : (sum count : ℕ) → (count ≡ 0 → ⊥) → 4 * (sum / count) + 4 * (sum % count) / count ≡ quarters_of sum count
quarters_in_parts sum zero h = absurd (h refl)
quarters_in_parts sum (suc n) h =
    let q = sum / suc n in
    let r = sum % suc n in
    let whole : q * suc n + r ≡ sum = div-add-mod' sum (suc n) in
    let times : 4 * q * suc n + 4 * r ≡ 4 * sum = omega (arith, mul_assoc 4 q (suc n), whole) in
    sym (mul-add-div_right (omega arith) (4 * q) (4 * r)) ∙ ap (λ x. x / suc n) times

-- a distance below 2^64 can be added
told_bounded : (n : ℕ) (t : DistanceSum) (o : Option ℕ) → ((x : ℕ) → o ≡ Some x → x < 2 ^ 64) → IsDistanceSumOf n t
    → IsDistanceSumOf (n + 1) (with_distance t o)
told_bounded n t None h is = record { sum = is.sum; count = omega (arith, is.count) }
told_bounded n t (Some x) h is = let below = h x refl in record { sum = omega (arith, below, is.sum); count = omega (arith, is.count) }

-- these with the distances from those that are left are the distance sums
abbrev pub BecomeDistanceSums : List (List Edge) → List ℕ → ℕ → List DistanceSum → Type 0
BecomeDistanceSums edges some i distance_sums = (length distance_sums ≡ length edges)
    × ((s : ℕ) → s < length edges → with_distances edges s (get_or distance_sums s no_distances) (drop i some) ≡ distance_sum edges some s)
    × All (IsDistanceSumOf i) distance_sums

-- one more of them
pub distance_sums_more : (edges : List (List Edge)) (some : List ℕ) (i a : ℕ) (old new : List DistanceSum) (distances : List (Option ℕ))
    → i < length some → a ≡ get_or some i a → length edges < 2 ^ 64 → AreDistances edges a distances → AreWithDistances old new distances
    → BecomeDistanceSums edges some i old → BecomeDistanceSums edges some (i + 1) new
distance_sums_more edges some i a old new distances here is small are to (all, become, bounded) = (to.all ∙ all, becomes, each_bounded)
  where
    rest : drop i some ≡ a ∷ drop (i + 1) some
    rest = drop-cons some i a here ∙ (λ j. sym is j ∷ drop (sym (add-one i) j) some)

    becomes : (s : ℕ) → s < length edges → with_distances edges s (get_or new s no_distances) (drop (i + 1) some) ≡ distance_sum edges some s
    becomes s h =
        ap (λ t. with_distances edges s t (drop (i + 1) some)) (to.each s (omega arith) ∙ ap (with_distance (get_or old s no_distances)) (are.shortest s h))
        ∙ sym (ap (with_distances edges s (get_or old s no_distances)) rest) ∙ become s h

    below : (s : ℕ) → s < length edges → (x : ℕ) → get_or distances s None ≡ Some x → x < 2 ^ 64
    below s h x e = let least = least_found 0 (length edges) (has_walk (heads edges) a s) x (sym (are.shortest s h) ∙ e) in omega (arith, least.bounded)

    each_bounded : All (IsDistanceSumOf (i + 1)) new
    each_bounded k d h =
        let within : k < length edges = omega (arith, to.all, all) in
        subst (IsDistanceSumOf (i + 1)) (sym (to.each k (omega arith)) ∙ get_or_default new k no_distances d h)
        (told_bounded i (get_or old k no_distances) (get_or distances k None) (below k within) (bounded k no_distances (omega (arith, all))))

-- the numbers and one more
pub distance_classes_more : {X : Type 0} (f : ℕ → X) (n : ℕ) → map f (numbers_from 0 (n + 1)) ≡ map f (numbers_from 0 n) ++ f n ∷ []
distance_classes_more f n =
    let last : 0 + n ≡ n = omega arith in
    ap (map f) (ap (numbers_from 0) (add-one n) ∙ numbers_more 0 n ∙ ap (λ x. numbers_from 0 n ++ x ∷ []) last) ∙ map-append f (numbers_from 0 n) (n ∷ [])
