-- Switches with their ranks.
use Rattle.std.proofs.Common.{◌≡◌, ℕ, suc, Bool, true, false, cond, List, [], ◌∷◌, length, refl, sym, ap, ◌∙◌}
use Rattle.std.specs.Prelude.{count_by, filter, map}
use Rattle.std.proofs.lemmas.List.Sums.{length-filter}
use Rattle.subnet_view.specs.SwitchEdges.{SwitchEdges}
use Rattle.subnet_view.specs.Graph.{guids_of}
use Rattle.plan_order.specs.PlanOrder.{comes_before, rank_position, ranked}

twice : {X Y Z : Type 0} (f : Y → Z) (g : X → Y) (xs : List X) → map f (map g xs) ≡ map (λ x. f (g x)) xs
twice f g [] = refl
twice f g (x ∷ xs) = ap (λ ys. f (g x) ∷ ys) (twice f g xs)

each : {X Y : Type 0} (f g : X → Y) (xs : List X) → ((x : X) → f x ≡ g x) → map f xs ≡ map g xs
each f g [] same = refl
each f g (x ∷ xs) same = λ i. same x i ∷ each f g xs same i

kept_mapped : {X Y : Type 0} (p : Y → Bool) (f : X → Y) (xs : List X) → length (filter p (map f xs)) ≡ length (filter (λ x. p (f x)) xs)
kept_mapped p f [] = refl
kept_mapped p f (x ∷ xs) =
    (elim (p (f x)) as (λ t. length (cond t (f x ∷ filter p (map f xs)) (filter p (map f xs))) ≡ length (cond t (x ∷ filter (λ y. p (f y)) xs) (filter (λ y. p (f y)) xs))) [
      | true ↦ ap suc (kept_mapped p f xs)
      | false ↦ kept_mapped p f xs
    ])

counted_mapped : {X Y : Type 0} (p : Y → Bool) (f : X → Y) (xs : List X) → count_by p (map f xs) ≡ count_by (λ x. p (f x)) xs
counted_mapped p f xs = sym (length-filter p (map f xs)) ∙ kept_mapped p f xs ∙ length-filter (λ x. p (f x)) xs

pub counts_are : (graph : List SwitchEdges) (pairs : List (ℕ × ℕ)) (counts : List ℕ) → pairs ≡ map (ranked graph) (guids_of graph)
    → counts ≡ map (λ own. count_by (λ other. comes_before other own) pairs) pairs → counts ≡ map (rank_position graph) (guids_of graph)
counts_are graph pairs counts are e =
    let gs = guids_of graph in
    let all : List (ℕ × ℕ) → List ℕ = λ ps. map (λ own. count_by (λ other. comes_before other own) ps) ps in
    e ∙ ap all are
    ∙ twice (λ own. count_by (λ other. comes_before other own) (map (ranked graph) gs)) (ranked graph) gs
    ∙ each (λ b. count_by (λ other. comes_before other (ranked graph b)) (map (ranked graph) gs)) (rank_position graph) gs
    (λ b. counted_mapped (λ other. comes_before other (ranked graph b)) (ranked graph) gs)
