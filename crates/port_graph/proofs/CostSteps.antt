-- Costs, vertex by vertex.
use Rattle.std.proofs.Common.{◌≡◌, ◌≤◌, ◌<◌, ◌+◌, ℕ, suc, List, [], ◌∷◌, ◌++◌, inl, inr, refl, sym, ap, ◌∙◌, arith, cond, length, min}
use Rattle.std.proofs.lemmas.Bool.{cases_lt, cases_eq}
use Rattle.std.proofs.lemmas.Option.{none-some, same_Some}
use Rattle.std.proofs.lemmas.List.{length_push, get_or_append_left, get_or_push, get_or_past}
use Rattle.std.specs.Prelude.{Option, None, Some, is_some, option_map, Contains, slice_index_or}
use Rattle.std.specs.List.{filter_map, cons_option}
use Rattle.port_graph.specs.declared.edge.Edge.{Edge}
use Rattle.port_graph.specs.Heads.{edges_at}
use Rattle.port_graph.specs.Slopes.{lesser, least_of, lesser_of}
use Rattle.port_graph.specs.NextPorts.{LeadToLesser, AreLess, AreCosts, cost_of}
use Rattle.port_graph.proofs.Lists.{filter_map_same, contains-from_filter_map, least_is_one}

-- the least of those seen and of the rest
pub least_more : (least o : Option ℕ) (rest : List ℕ) → lesser_of (lesser_of least o) (least_of rest) ≡ lesser_of least (least_of (cons_option o rest))
least_more None None rest = refl
least_more (Some n) None rest = refl
least_more None (Some c) rest = refl
least_more (Some n) (Some c) rest = ap Some (lesser_assoc n c (least_of rest))
  where
    lesser_assoc : (n c : ℕ) (o : Option ℕ) → lesser (min n c) o ≡ min n (lesser c o)
    lesser_assoc n c None = refl
    lesser_assoc n c (Some m) = least_three n c m
      where
        least_three : (n c m : ℕ) → min (min n c) m ≡ min n (min c m)
        least_three n c m = omega arith

-- nothing is left
pub least_all : (least : Option ℕ) → lesser_of least None ≡ least
least_all None = refl
least_all (Some n) = refl

module _ (ups : List (List Edge)) (rise : LeadToLesser ups) (distances : List (Option ℕ)) where
  -- no vertex has a cost yet
  pub costs_none : (costs : List (Option ℕ)) → costs ≡ [] → AreCosts ups distances 0 costs
  costs_none costs e = record { all = ap length e; cost = λ a h. absurd (omega arith) }

  module _ (n : ℕ) (costs : List (Option ℕ)) (are : AreCosts ups distances n costs) (c : Option ℕ) where
    -- what a vertex costs is not changed by the costs of greater ones
    cost_kept : (a : ℕ) (d : Option ℕ) → a ≤ n → cost_of d (edges_at ups a) (costs ++ c ∷ []) ≡ cost_of d (edges_at ups a) costs
    cost_kept a d h =
        ap (λ ns. cond (is_some d) d (option_map suc (least_of ns)))
        (filter_map_same (λ e. slice_index_or (costs ++ c ∷ []) e.to None) (λ e. slice_index_or costs e.to None) (edges_at ups a)
        (λ e k. let l = rise a e k in get_or_append_left costs (c ∷ []) None e.to (omega (arith, are.all))))

    -- the cost of one more
    pub costs_more : c ≡ cost_of (slice_index_or distances n None) (edges_at ups n) costs → AreCosts ups distances (n + 1) (costs ++ c ∷ [])
    costs_more is =
        record {
          all = omega (arith, length_push costs c, are.all);
          cost = λ a h. (elim (cases_eq a n) [
            | inl same ↦ ap (λ x. slice_index_or (costs ++ c ∷ []) x None) same ∙ get_or_push costs c None n are.all ∙ is
                ∙ sym (cost_kept n (slice_index_or distances n None) (omega arith))
                ∙ (λ i. cost_of (slice_index_or distances (sym same i) None) (edges_at ups (sym same i)) (costs ++ c ∷ []))
            | inr other ↦ let below : a < n = grind arith in
                get_or_append_left costs (c ∷ []) None a (omega (arith, are.all)) ∙ are.cost a below
                ∙ sym (cost_kept a (slice_index_or distances a None) (omega arith))
          ]);
        }

-- a cost is less than the bound and the vertex together
abbrev pub AreBounded : ℕ → List (Option ℕ) → Type 0
AreBounded bound costs = (a c : ℕ) → slice_index_or costs a None ≡ Some c → c < bound + a

cost_bounded : (bound n : ℕ) (d : Option ℕ) (edges : List Edge) (costs : List (Option ℕ)) → AreBounded bound costs → ((e : Edge) → Contains edges e → e.to < n)
    → ((m : ℕ) → d ≡ Some m → m < bound) → (c : ℕ) → cost_of d edges costs ≡ Some c → c < bound + n
cost_bounded bound n (Some m) edges costs are rise below c e = omega (arith, below m refl, same_Some m c e)
cost_bounded bound n None edges costs are rise below c e = from_least (least_of (filter_map (λ e. slice_index_or costs e.to None) edges)) refl e
  where
    from_least : (o : Option ℕ) → least_of (filter_map (λ e. slice_index_or costs e.to None) edges) ≡ o → option_map suc o ≡ Some c → c < bound + n
    from_least None q e = absurd (none-some c e)
    from_least (Some m) q e =
        let i = least_is_one (filter_map (λ e. slice_index_or costs e.to None) edges) m q in
        let x = contains-from_filter_map (λ (y : Edge). slice_index_or costs y.to None) edges m i.0 in
        omega (arith, are x.0.to m x.2, rise x.0 x.1, same_Some (suc m) c e)

-- one more cost is bounded
pub bounded_more : (ups : List (List Edge)) (rise : LeadToLesser ups) (bound n : ℕ) (d : Option ℕ) (costs : List (Option ℕ)) (c : Option ℕ) → length costs ≡ n
    → c ≡ cost_of d (edges_at ups n) costs → ((m : ℕ) → d ≡ Some m → m < bound) → AreBounded bound costs → AreBounded bound (costs ++ c ∷ [])
bounded_more ups rise bound n d costs c all is below are a m h =
    elim (cases_lt a n) [
      | inl l ↦ are a m (sym (get_or_append_left costs (c ∷ []) None a (omega arith)) ∙ h)
      | inr k ↦ (elim (cases_eq a n) [
        | inl same ↦
            let it = cost_bounded bound n d (edges_at ups n) costs are (λ e j. rise n e j) below m
            (sym is ∙ sym (get_or_push costs c None n all) ∙ ap (λ x. slice_index_or (costs ++ c ∷ []) x None) (sym same) ∙ h) in
            omega (arith, it)
        | inr other ↦ absurd (none-some m (sym (get_or_past (costs ++ c ∷ []) a None (past k other)) ∙ h))
      ])
    ]
  where
    past : n ≤ a → (a ≡ n → ⊥) → length (costs ++ c ∷ []) ≤ a
    past k other = let l = length_push costs c in grind arith

-- the least cost is below what all are
pub least_below : (edges : List Edge) (costs : List (Option ℕ)) (bound : ℕ) → AreLess bound costs
    → (m : ℕ) → least_of (filter_map (λ e. slice_index_or costs e.to None) edges) ≡ Some m → m < bound
least_below edges costs bound room m e =
    let i = least_is_one (filter_map (λ e. slice_index_or costs e.to None) edges) m e in
    let x = contains-from_filter_map (λ (y : Edge). slice_index_or costs y.to None) edges m i.0 in
    room x.0.to m x.2
