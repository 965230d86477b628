-- Sums over one vertex more, and distances from one start more.
use Rattle.std.proofs.Common.{◌≡◌, ◌+◌, ◌++◌, ℕ, zero, suc, List, [], ◌∷◌, refl, sym, ap, ◌∙◌, arith, add-one, map, length, replicate}
use Rattle.std.specs.Prelude.{Option, None}
use Rattle.std.specs.List.{fold, zip}
use Rattle.std.proofs.lemmas.List.Sums.{fold-append}
use Rattle.port_graph.specs.declared.edge.Edge.{Edge}
use Rattle.spread_labels.specs.DistanceClass.{distance}
use Rattle.spread_labels.specs.GrowthKeys.{distances_from}
use Rattle.spread_labels.specs.Orders.{numbers_from}
use Rattle.spread_labels.proofs.Earlier.{numbers_more}
use Rattle.trial_loads.specs.Starts.{near_start, near_starts, nearer}

pub numbers_to : (n : ℕ) → numbers_from 0 (n + 1) ≡ numbers_from 0 n ++ n ∷ []
numbers_to n =
    let is : 0 + n ≡ n = omega arith in
    ap (numbers_from 0) (add-one n) ∙ numbers_more 0 n ∙ ap (λ k. numbers_from 0 n ++ k ∷ []) is

pub fold_more : {B : Type 0} (f : B → ℕ → B) (b : B) (n : ℕ) → fold f b (numbers_from 0 (n + 1)) ≡ f (fold f b (numbers_from 0 n)) n
fold_more f b n = ap (fold f b) (numbers_to n) ∙ fold-append f b (numbers_from 0 n) (n ∷ [])

abbrev nowhere : ℕ → Option ℕ
nowhere s = None

-- no start is near to any vertex
pub none_near : (k n : ℕ) → replicate n None ≡ map nowhere (numbers_from k n)
none_near k zero = refl
none_near k (suc n) = ap (λ xs. None ∷ xs) (none_near (suc k) n)

both_made : (f g : ℕ → Option ℕ) (ns : List ℕ) → map (λ p. nearer p.0 p.1) (zip (map f ns) (map g ns)) ≡ map (λ s. nearer (f s) (g s)) ns
both_made f g [] = refl
both_made f g (n ∷ ns) = ap (λ xs. nearer (f n) (g n) ∷ xs) (both_made f g ns)

-- the distances from the nearest start, with one start more
pub near_more : (edges : List (List Edge)) (starts : List ℕ) (t : ℕ)
    → map (λ p. nearer p.0 p.1) (zip (near_starts edges starts) (distances_from edges t)) ≡ near_starts edges (starts ++ t ∷ [])
near_more edges starts t =
    both_made (near_start edges starts) (distance edges t) (numbers_from 0 (length edges))
    ∙ sym (λ i. map (λ s. fold-append (λ near u. nearer near (distance edges u s)) None starts (t ∷ []) i) (numbers_from 0 (length edges)))
