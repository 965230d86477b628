-- Ends, one destination after the other.
use Rattle.std.proofs.Common.{◌≡◌, ◌<◌, ◌≤◌, ◌+◌, ◌-◌, ◌++◌, ℕ, List, [], ◌∷◌, refl, sym, ap, ◌∙◌, arith, drop, get_or, length, map, take}
use Rattle.std.proofs.lemmas.List.{drop-drop, drop_more, get_or-map, take-append-drop, take_more}
use Rattle.port_graph.proofs.Counts.{length_map}
use Rattle.std.specs.Prelude.{slice_index}
use Rattle.port_graph.specs.declared.edge.Edge.{Edge}
use Rattle.port_graph.specs.Heads.{edges_at}
use Rattle.spread_labels.specs.declared.target_set.TargetSet.{TargetSet}
use Rattle.spread_labels.specs.Labels.{candidates}
use Rattle.spread_labels.specs.MarkSets.{AreCandidateSets, picked, sets_at}
use Rattle.spread_labels.specs.Orders.{numbers_from}
use Rattle.spread_labels.proofs.Numbers.{made_all, made_at, numbers_long}
use Rattle.balanced_choices.specs.declared.level_digit.LevelDigit.{LevelDigit}
use Rattle.balanced_choices.specs.declared.choice_rounds.Destination.{Destination}
use Rattle.balanced_choices.specs.BalancedChoices.{Balance, ends_of, towards, with_all, with_ends, near_first}

pub ends_both : (n : ℕ) (ds es : List Destination) → ends_of n (ds ++ es) ≡ ends_of (ends_of n ds) es
ends_both n [] es = refl
ends_both n (d ∷ ds) es = ends_both (n + d.ends) ds es

-- the ends of one destination more
pub ends_more : (n : ℕ) (ds : List Destination) (i : ℕ) (d : Destination) → i < length ds
    → ends_of n (take (i + 1) ds) ≡ ends_of n (take i ds) + (get_or ds i d).ends
ends_more n ds i d h = ap (ends_of n) (take_more ds i d h) ∙ ends_both n (take i ds) (get_or ds i d ∷ [])

-- those of the next destination, of those that are left
pub ends_next : (n : ℕ) (ds : List Destination) (i : ℕ) (d : Destination) → i < length ds
    → ends_of n (drop i ds) ≡ ends_of (n + (get_or ds i d).ends) (drop (i + 1) ds)
ends_next n ds i d h = ap (ends_of n) (drop_more ds i d h)

pub ends_least : (n : ℕ) (ds : List Destination) → n ≤ ends_of n ds
ends_least n [] = omega arith
ends_least n (d ∷ ds) = let rest = ends_least (n + d.ends) ds in omega (arith, rest)

-- some destinations of those that are left, and those behind them
pub part_and_rest : (ds : List Destination) (first count : ℕ) → take (first + count - first) (drop first ds) ++ drop (first + count) ds ≡ drop first ds
part_and_rest ds first count =
    let is : first + count - first ≡ count = omega arith in
    (λ i. take (is i) (drop first ds) ++ sym (drop-drop count first ds) i) ∙ take-append-drop count (drop first ds)

pub ends_of_part : (n : ℕ) (ds : List Destination) (first count : ℕ) → ends_of n (take (first + count - first) (drop first ds)) ≤ ends_of n (drop first ds)
ends_of_part n ds first count =
    let part = take (first + count - first) (drop first ds) in
    let rest = drop (first + count) ds in
    let both : ends_of n (drop first ds) ≡ ends_of (ends_of n part) rest =
    sym (ap (ends_of n) (part_and_rest ds first count)) ∙ ends_both n part rest in
    let most = ends_least (ends_of n part) rest in
    omega (arith, both, most)

-- the choices for the ends of some destinations and then of others
pub all_both : (round : ℕ) (graph : List (List Edge)) (sent : List ℕ) (digits : List LevelDigit) (old : Balance) (n : ℕ) (ds es : List Destination)
    → with_all round graph sent digits old n (ds ++ es)
    ≡ with_all round graph sent digits (with_all round graph sent digits old n ds) (ends_of n ds) es
all_both round graph sent digits old n [] es = refl
all_both round graph sent digits old n (d ∷ ds) es =
    let ways = towards graph d.position in
    all_both round graph sent digits
    (with_ends round ways sent digits (near_first ways) d.number n old (numbers_from n d.ends)) (n + d.ends) ds es

-- the edges whose sets have a target are the candidates towards it
ways_are : (graph : List (List Edge)) (targets : List ℕ) (sets : List (List TargetSet)) (k t : ℕ) → AreCandidateSets graph targets sets
    → k < length targets → slice_index targets k ≡ t
    → map (λ p. picked k (sets_at sets p) (edges_at graph p)) (numbers_from 0 (length graph)) ≡ towards graph t
ways_are graph targets sets k t are below is =
    let n = length graph in
    let f : ℕ → List Edge = λ p. picked k (sets_at sets p) (edges_at graph p) in
    made_all (candidates graph t) n (map f (numbers_from 0 n)) [] (numbers_long f 0 n)
    (λ p h. made_at f n p [] h ∙ are.each k p below h ∙ ap (λ q. candidates graph q p) is)

-- the candidates towards the position of one of the destinations
pub ways_at : (graph : List (List Edge)) (targets : List ℕ) (ds : List Destination) (none : Destination) (sets : List (List TargetSet)) (k : ℕ)
    → targets ≡ map (λ d. d.position) ds → AreCandidateSets graph targets sets → k < length ds
    → map (λ p. picked k (sets_at sets p) (edges_at graph p)) (numbers_from 0 (length graph)) ≡ towards graph (get_or ds k none).position
ways_at graph targets ds none sets k all are h =
    let below : k < length targets = omega (arith, h, ap length all ∙ length_map (λ (d : Destination). d.position) ds) in
    ways_are graph targets sets k (get_or ds k none).position are below
    (ap (λ ts. get_or ts k 0) all ∙ get_or-map (λ (d : Destination). d.position) ds k none 0 h)
