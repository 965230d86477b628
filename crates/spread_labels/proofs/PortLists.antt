-- Ports of candidates, target by target.
use Rattle.std.proofs.Common.{◌≡◌, ◌≢◌, ◌<◌, ◌+◌, ◌++◌, ℕ, zero, suc, List, Vec, Global, [], ◌∷◌, inl, inr, refl, sym, ap, ◌∙◌, arith, append_assoc, true, false, not, Bool, cond, ◌&&◌, ◌==◌, drop, length, map}
use Rattle.std.proofs.lemmas.Bool.{cases_eq, eq-eqb}
use Rattle.std.proofs.lemmas.List.{get_or-map, get_or-set_other, get_or-set_same, length-map, map-set}
use Rattle.std.specs.Prelude.{slice_index_or, slice_set}
use Rattle.port_graph.specs.declared.edge.Edge.{Edge}
use Rattle.spread_labels.proofs.Tests.{other_test}
use Rattle.spread_labels.specs.declared.target_set.TargetSet.{TargetSet}
use Rattle.spread_labels.specs.TargetSet.{has}
use Rattle.spread_labels.specs.MarkSets.{edge_at, picked, set_at}
use Rattle.spread_labels.specs.CandidateLists.{added}

abbrev pub list_items : Vec ℕ Global → List ℕ
list_items list = list.items

abbrev pub list_at : List (Vec ℕ Global) → ℕ → List ℕ
list_at lists k = slice_index_or (map list_items lists) k []

-- after one was written
pub written_same : (lists : List (Vec ℕ Global)) (i : ℕ) (list : Vec ℕ Global) → i < length lists → list_at (slice_set lists i list) i ≡ list.items
written_same lists i list h =
    ap (λ (xs : List (List ℕ)). slice_index_or xs i []) (map-set list_items lists i list)
    ∙ get_or-set_same (map list_items lists) i list.items [] (omega (arith, h, length-map lists list_items))

pub written_other : (lists : List (Vec ℕ Global)) (i k : ℕ) (list : Vec ℕ Global) → k ≢ i → list_at (slice_set lists i list) k ≡ list_at lists k
written_other lists i k list other =
    ap (λ (xs : List (List ℕ)). slice_index_or xs k []) (map-set list_items lists i list)
    ∙ get_or-set_other (map list_items lists) i k list.items [] other

pub cleared_more : (lists : List (Vec ℕ Global)) (i : ℕ) (list : Vec ℕ Global) → list.items ≡ [] → i < length lists
    → ((k : ℕ) → k < i → list_at lists k ≡ []) → (k : ℕ) → k < i + 1 → list_at (slice_set lists i list) k ≡ []
cleared_more lists i list none h before k l =
    elim (cases_eq k i) [
      | inl same ↦ ap (list_at (slice_set lists i list)) same ∙ written_same lists i list h ∙ none
      | inr other ↦ let below : k < i = grind arith in written_other lists i k list other ∙ before k below
    ]

-- the first of the edges that are left, and the others
pub picked_first : (k : ℕ) (sets : List TargetSet) (es : List Edge) (i : ℕ) → length sets ≡ length es → i < length es
    → picked k (drop i sets) (drop i es)
    ≡ cond (has (set_at sets i) k) (edge_at es i ∷ picked k (drop (suc i) sets) (drop (suc i) es)) (picked k (drop (suc i) sets) (drop (suc i) es))
picked_first k sets [] i long h = absurd (omega (arith, h))
picked_first k [] (e ∷ es) i long h = absurd (omega (arith, long))
picked_first k (set ∷ sets) (e ∷ es) zero long h = refl
picked_first k (set ∷ sets) (e ∷ es) (suc i) long h = picked_first k sets es i (omega (arith, long)) (omega (arith, h))

pub added_is : (set : TargetSet) (k : ℕ) (e : Edge) (list : List ℕ) (rest : List Edge)
    → added set e.port k list ++ map (λ (x : Edge). x.port) rest ≡ list ++ map (λ (x : Edge). x.port) (cond (has set k) (e ∷ rest) rest)
added_is set k e list rest =
    elim (has set k) as (λ b. cond b (list ++ e.port ∷ []) list ++ map (λ (x : Edge). x.port) rest
    ≡ list ++ map (λ (x : Edge). x.port) (cond b (e ∷ rest) rest)) [
      | true ↦ append_assoc list (e.port ∷ []) (map (λ (x : Edge). x.port) rest)
      | false ↦ refl
    ]

-- a target less is left
pub added_more : (left next : TargetSet) (port t : ℕ) (lists : List (Vec ℕ Global)) (list : Vec ℕ Global) → t < length lists → has left t ≡ true
    → ((k : ℕ) → k < 64 → has next k ≡ (has left k && not (k == t))) → list.items ≡ list_at lists t ++ port ∷ []
    → (k : ℕ) → k < 64 → added next port k (list_at (slice_set lists t list) k) ≡ added left port k (list_at lists k)
added_more left next port t lists list h among others is k l =
    elim (cases_eq k t) [
      | inl same ↦
          let gone : has next k ≡ false = others k l ∙ ap (λ b. has left k && not b) (eq-eqb k t same) ∙ never (has left k) in
          let here : list_at (slice_set lists t list) k ≡ list_at lists k ++ port ∷ [] =
          ap (list_at (slice_set lists t list)) same ∙ written_same lists t list h ∙ is ∙ ap (λ x. list_at lists x ++ port ∷ []) (sym same) in
          (λ i. cond (gone i) (here i ++ port ∷ []) (here i))
          ∙ ap (λ b. cond b (list_at lists k ++ port ∷ []) (list_at lists k)) (sym (ap (has left) same ∙ among))
      | inr other ↦
          let still : has next k ≡ has left k = others k l ∙ ap (λ b. has left k && not b) (other_test k t other) ∙ always (has left k) in
          let here : list_at (slice_set lists t list) k ≡ list_at lists k = written_other lists t k list other in
          (λ i. cond (still i) (here i ++ port ∷ []) (here i))
    ]
  where
    never : (b : Bool) → (b && not true) ≡ false
    never true = refl
    never false = refl

    always : (b : Bool) → (b && not false) ≡ b
    always true = refl
    always false = refl

-- a list by the item of a vector
pub list_of : (lists : List (Vec ℕ Global)) (t : ℕ) (list : Vec ℕ Global) → t < length lists → list_at lists t ≡ (slice_index_or lists t list).items
list_of lists t list h = get_or-map list_items lists t list [] h
