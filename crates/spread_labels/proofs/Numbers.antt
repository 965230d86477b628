-- What is made of each of the numbers below a bound.
use Rattle.std.proofs.Common.{◌≡◌, ◌<◌, ◌+◌, ◌++◌, ℕ, zero, suc, List, [], ◌∷◌, refl, sym, ap, ap₂, ◌∙◌, arith, length, map, get_or, take}
use Rattle.std.proofs.lemmas.List.{ext_get_or, get_or-map, map-append, take_more}
use Rattle.std.specs.Prelude.{None, Option, unwrap_or}
use Rattle.port_graph.specs.declared.edge.Edge.{Edge}
use Rattle.port_graph.specs.Heads.{AreDistances}
use Rattle.port_graph.proofs.Counts.{length_map}
use Rattle.spread_labels.specs.declared.distance_class.DistanceSum.{DistanceSum}
use Rattle.spread_labels.specs.DistanceClass.{AreDistanceSums, distance_class_at, distance_class_by, distance_class_of, distance_classes_of, distance, no_distances}
use Rattle.spread_labels.specs.GrowthKeys.{distances_from}
use Rattle.spread_labels.specs.Level.{level_of, levels_of}
use Rattle.spread_labels.specs.Orders.{numbers_from}

pub numbers_long : {X : Type 0} (f : ℕ → X) (k n : ℕ) → length (map f (numbers_from k n)) ≡ n
numbers_long f k zero = refl
numbers_long f k (suc n) = ap suc (numbers_long f (suc k) n)

made_from : {X : Type 0} (f : ℕ → X) (k n i : ℕ) (d : X) → i < n → get_or (map f (numbers_from k n)) i d ≡ f (k + i)
made_from f k zero i d h = absurd (omega arith)
made_from f k (suc n) zero d h = let here : k ≡ k + 0 = omega arith in ap f here
made_from f k (suc n) (suc i) d h = let there : suc k + i ≡ k + suc i = omega arith in made_from f (suc k) n i d (omega arith) ∙ ap f there

-- what was made of a number stands at it
pub made_at : {X : Type 0} (f : ℕ → X) (n i : ℕ) (d : X) → i < n → get_or (map f (numbers_from 0 n)) i d ≡ f i
made_at f n i d h = let here : 0 + i ≡ i = omega arith in made_from f 0 n i d h ∙ ap f here

-- a list is what was made of the numbers where each of its elements is
pub made_all : {X : Type 0} (f : ℕ → X) (n : ℕ) (xs : List X) (d : X) → length xs ≡ n → ((i : ℕ) → i < n → get_or xs i d ≡ f i) → xs ≡ map f (numbers_from 0 n)
made_all f n xs d long each =
    ext_get_or d xs (map f (numbers_from 0 n)) (long ∙ sym (numbers_long f 0 n))
    (λ i h. each i (omega (arith, long)) ∙ sym (made_at f n i d (omega (arith, long))))

-- distances, one after the other
pub distances_are : (edges : List (List Edge)) (s : ℕ) (ds : List (Option ℕ)) → AreDistances edges s ds → ds ≡ distances_from edges s
distances_are edges s ds are = made_all (distance edges s) (length edges) ds None are.all are.shortest

-- what was made of the first elements, and one more
pub mapped_more : {X Y : Type 0} (f : X → Y) (xs : List X) (i : ℕ) (d : X) → i < length xs → map f (take (i + 1) xs) ≡ map f (take i xs) ++ f (get_or xs i d)
    ∷ []
mapped_more f xs i d h = ap (map f) (take_more xs i d h) ∙ map-append f (take i xs) (get_or xs i d ∷ [])

-- levels, by distance sums
pub levels_are : (edges : List (List Edge)) (leaves : List ℕ) (distance_sums : List DistanceSum) → AreDistanceSums edges leaves distance_sums
    → map (λ t. unwrap_or t.near 0) distance_sums ≡ levels_of edges leaves
levels_are edges leaves distance_sums are =
    made_all (level_of edges leaves) (length edges) (map (λ t. unwrap_or t.near 0) distance_sums) 0
    (length_map (λ (t : DistanceSum). unwrap_or t.near 0) distance_sums ∙ are.all)
    (λ i h. get_or-map (λ (t : DistanceSum). unwrap_or t.near 0) distance_sums i no_distances 0 (omega (arith, are.all))
    ∙ ap (λ t. unwrap_or t.near 0) (are.each i h))

-- what is made alike of each number below a bound
pub made_alike : (f g : ℕ → ℕ) (n : ℕ) → ((i : ℕ) → i < n → f i ≡ g i) → map f (numbers_from 0 n) ≡ map g (numbers_from 0 n)
made_alike f g n same = made_all g n (map f (numbers_from 0 n)) 0 (numbers_long f 0 n) (λ i h. made_at f n i 0 h ∙ same i h)

-- distance classes, by distance sums
pub distance_classes_are : (edges : List (List Edge)) (leaves roots : List ℕ) (near_roots near_leaves : List DistanceSum)
    → AreDistanceSums edges roots near_roots
    → AreDistanceSums edges leaves near_leaves
    → map (distance_class_at near_roots near_leaves) (numbers_from 0 (length near_roots)) ≡ distance_classes_of edges leaves roots
distance_classes_are edges leaves roots near_roots near_leaves one other =
    ap (λ n. map (distance_class_at near_roots near_leaves) (numbers_from 0 n)) one.all
    ∙ made_alike (distance_class_at near_roots near_leaves) (distance_class_of edges leaves roots) (length edges)
    (λ s h. ap₂ distance_class_by (one.each s h) (other.each s h))
