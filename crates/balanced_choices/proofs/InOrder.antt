-- Positions, one after the other.
use Rattle.std.proofs.Common.{◌≡◌, ◌<◌, ◌+◌, ◌-◌, ◌++◌, ℕ, suc, List, [], ◌∷◌, All, sym}
use Rattle.std.proofs.Common.{ap, subst, ◌∙◌, arith, add-one, append-nil, append_assoc, true, false, Bool, cond, drop, get_or, length, map}
use Rattle.std.proofs.lemmas.List.{drop_more, map-append, reverse-append}
use Rattle.std.proofs.lemmas.List.Elements.{All-append, All-cons, All-filter, All-nil}
use Rattle.std.specs.Prelude.{filter, not, reverse}
use Rattle.port_graph.specs.declared.edge.Edge.{Edge}
use Rattle.spread_labels.specs.Orders.{numbers_from}
use Rattle.spread_labels.proofs.Earlier.{filter_more, numbers_more}
use Rattle.spread_labels.proofs.LeafVertices.{all_below}
use Rattle.balanced_choices.specs.BalancedChoices.{Chosen, choose_each, is_below, near_first, with_choice}

-- the numbers that are left begin with the next
pub numbers_left : (n p : ℕ) → p < n → numbers_from p (n - p) ≡ p ∷ numbers_from (p + 1) (n - (p + 1))
numbers_left n p h =
    let left : n - p ≡ suc (n - (p + 1)) = omega arith in
    ap (numbers_from p) left ∙ ap (λ k. p ∷ numbers_from k (n - (p + 1))) (sym (add-one p))

-- one number more from the last on that passes a test or not
pub filter_back : (test : ℕ → Bool) (n i : ℕ) → i < n
    → filter test (reverse (numbers_from (n - (i + 1)) (i + 1)))
    ≡ filter test (reverse (numbers_from (n - i) i)) ++ cond (test (n - 1 - i)) ((n - 1 - i) ∷ []) []
filter_back test n i h =
    let first : n - (i + 1) ≡ n - 1 - i = omega arith in
    let next : suc (n - 1 - i) ≡ n - i = omega arith in
    ap (λ xs. filter test (reverse xs))
    ((λ j. numbers_from (first j) (add-one i j)) ∙ ap (λ k. (n - 1 - i) ∷ numbers_from k i) next)
    ∙ ap (filter test) (reverse-append ((n - 1 - i) ∷ []) (numbers_from (n - i) i))
    ∙ filter_more test (reverse (numbers_from (n - i) i)) (n - 1 - i)

-- behind some, a number that passes a test, and one that does not
pub passing : (old xs : List ℕ) (p : ℕ) (b : Bool) → b ≡ true → (old ++ xs) ++ p ∷ [] ≡ old ++ (xs ++ cond b (p ∷ []) [])
passing old xs p b is = append_assoc old xs (p ∷ []) ∙ ap (λ t. old ++ (xs ++ cond t (p ∷ []) [])) (sym is)

pub failing : (old xs : List ℕ) (p : ℕ) (b : Bool) → b ≡ false → old ++ xs ≡ old ++ (xs ++ cond b (p ∷ []) [])
failing old xs p b is = ap (λ l. old ++ l) (sym (append-nil xs)) ∙ ap (λ t. old ++ (xs ++ cond t (p ∷ []) [])) (sym is)

pub all_reversed : (P : ℕ → Type 0) (xs : List ℕ) → All P xs → All P (reverse xs)
all_reversed P [] all = all
all_reversed P (x ∷ xs) all =
    let rest : All P xs = λ i d h. all (suc i) d (omega (arith, h)) in
    let first : P x = all 0 x (omega arith) in
    subst (All P) (sym (reverse-append (x ∷ []) xs))
    (All-append P (reverse xs) (x ∷ []) (all_reversed P xs rest) (All-cons P x [] first (All-nil P)))

-- all are positions
pub near_first_positions : (ways : List (List Edge)) → All (λ p. p < length ways) (near_first ways)
near_first_positions ways =
    let n = length ways in
    let P : ℕ → Type 0 = λ p. p < n in
    let all = all_below n 0 n (omega arith) in
    let above : ℕ → Bool = λ p. not (is_below ways p) in
    All-append P (filter above (reverse (numbers_from 0 n))) (filter (is_below ways) (numbers_from 0 n))
    (All-filter above P (reverse (numbers_from 0 n)) (all_reversed P (numbers_from 0 n) all))
    (All-filter (is_below ways) P (numbers_from 0 n) all)

-- each of these in turn
pub next_position : (ways : List (List Edge)) (order : List ℕ) (i : ℕ) → order ≡ near_first ways → i < length order → get_or order i 0 < length ways
next_position ways order i is h = subst (All (λ p. p < length ways)) (sym is) (near_first_positions ways) i 0 h

-- the next position chooses
pub choose_next : (choice : Chosen → ℕ → ℕ) (ways : List (List Edge)) (sent : List ℕ) (old : Chosen) (ps : List ℕ) (i : ℕ) → i < length ps
    → choose_each choice ways sent (with_choice ways sent old (get_or ps i 0) (choice old (get_or ps i 0))) (drop (i + 1) ps)
    ≡ choose_each choice ways sent old (drop i ps)
choose_next choice ways sent old ps i h = sym (ap (choose_each choice ways sent old) (drop_more ps i 0 h))

-- what is made of one number more
pub made_next : {X : Type 0} (f : ℕ → X) (n : ℕ) → map f (numbers_from 0 (n + 1)) ≡ map f (numbers_from 0 n) ++ f n ∷ []
made_next f n =
    let is : 0 + n ≡ n = omega arith in
    ap (map f) (ap (numbers_from 0) (add-one n) ∙ numbers_more 0 n) ∙ map-append f (numbers_from 0 n) ((0 + n) ∷ [])
    ∙ ap (λ k. map f (numbers_from 0 n) ++ f k ∷ []) is
