-- Ranks that are found root by root.
use Rattle.std.proofs.Common.{◌≡◌, ◌<◌, ◌≤◌, ◌+◌, ℕ, suc, List, [], ◌∷◌, ◌++◌, inl, inr, refl, sym, ap, ◌∙◌, subst, arith, true, cond, map, length, get_or, take, drop}
use Rattle.std.proofs.lemmas.Bool.{true≢false}
use Rattle.std.proofs.lemmas.List.{get_or-map, ext_get_or, take-append-drop, take_all}
use Rattle.std.proofs.lemmas.List.Elements.{Contains-append_left}
use Rattle.std.proofs.Math.Seq.{take-suc}
use Rattle.std.specs.Prelude.{Option, None, Some, Contains, is_some, option_and_then, replicate}
use Rattle.std.specs.Option.{option_or}
use Rattle.std.specs.List.{find}
use Rattle.smp_bytes.proofs.Members.{contains_here, contains_later, contains_cases, contains_none}
use Rattle.port_graph.proofs.Counts.{length_map}
use Rattle.subnet_view.specs.SwitchEdges.{SwitchEdges}
use Rattle.subnet_view.specs.Graph.{guids_of}
use Rattle.subnet_view.specs.GraphLaws.{IsGraph, IsSwitch}
use Rattle.subnet_view.specs.Components.{distance, in_one_component}
use Rattle.subnet_view.proofs.Components.{find_same, same_tests, component_symm, component_trans}
use Rattle.subnet_view.proofs.Walked.{map_same}
use Rattle.updown_routes.specs.Ranks.{rank_of}

-- the distance from the first of these that reaches the switch
abbrev pub first_distance : List SwitchEdges → List ℕ → ℕ → Option ℕ
first_distance graph [] v = None
first_distance graph (root ∷ roots) v = option_or (distance graph root v) (first_distance graph roots v)

-- the ranks that the first so many roots give
abbrev pub AreRanksOf : List SwitchEdges → ℕ → List (Option ℕ) → Type 0
AreRanksOf graph n ranks = ranks ≡ map (first_distance graph (take n (guids_of graph))) (guids_of graph)

or_none : (o : Option ℕ) → option_or o None ≡ o
or_none None = refl
or_none (Some n) = refl

or_assoc : (o p q : Option ℕ) → option_or o (option_or p q) ≡ option_or (option_or o p) q
or_assoc None p q = refl
or_assoc (Some n) p q = refl

module _ (graph : List SwitchEdges) where
  abbrev first : List ℕ → ℕ → Option ℕ
  first = first_distance graph

  abbrev guids : List ℕ
  guids = guids_of graph

  first_more : (roots : List ℕ) (root v : ℕ) → first (roots ++ root ∷ []) v ≡ option_or (first roots v) (distance graph root v)
  first_more [] root v = or_none (distance graph root v)
  first_more (x ∷ roots) root v =
      ap (option_or (distance graph x v)) (first_more roots root v) ∙ or_assoc (distance graph x v) (first roots v) (distance graph root v)

  one_more_root : (n : ℕ) → n < length guids → take (n + 1) guids ≡ take n guids ++ get_or guids n 0 ∷ []
  one_more_root n h = let e : n + 1 ≡ suc n = omega arith in ap (λ k. take k guids) e ∙ take-suc guids n 0 h

  -- a root that reaches it, where there is a distance
  first_root : (roots : List ℕ) (v : ℕ) → is_some (first roots v) ≡ true → (root : ℕ) × Contains roots root × (in_one_component graph root v ≡ true)
  first_root [] v e = absurd (cc)
  first_root (x ∷ roots) v e =
      elim (distance graph x v) as (λ o. distance graph x v ≡ o → is_some (option_or o (first roots v)) ≡ true
      → (root : ℕ) × Contains (x ∷ roots) root × (in_one_component graph root v ≡ true)) [
        | None ↦ λ q k. let i = first_root roots v k in (i.0, contains_later x i.0 roots i.1, i.2)
        | Some d ↦ λ q k. (x, contains_here x roots, ap is_some q)
      ] refl e

  -- and a distance, where a root reaches it
  root_first : (roots : List ℕ) (v root : ℕ) → Contains roots root → in_one_component graph root v ≡ true → is_some (first roots v) ≡ true
  root_first [] v root h e = absurd (contains_none root h)
  root_first (x ∷ roots) v root h e =
      elim (distance graph x v) as (λ o. distance graph x v ≡ o → is_some (option_or o (first roots v)) ≡ true) [
        | None ↦ λ q. (elim (contains_cases x root roots h) [
          | inl i ↦ absurd (true≢false (sym e ∙ ap (λ y. is_some (distance graph y v)) (sym i) ∙ ap is_some q))
          | inr k ↦ root_first roots v root k e
        ])
        | Some d ↦ λ q. refl
      ] refl

  first_is_found : (roots : List ℕ) (v : ℕ) → first roots v
      ≡ option_and_then (λ root. distance graph root v) (find (λ root. in_one_component graph root v) roots)
  first_is_found [] v = refl
  first_is_found (x ∷ roots) v =
      elim (distance graph x v) as (λ o. distance graph x v ≡ o
      → option_or o (first roots v)
      ≡ option_and_then (λ root. distance graph root v) (cond (is_some o) (Some x) (find (λ root. in_one_component graph root v) roots))) [
        | None ↦ λ q. first_is_found roots v
        | Some d ↦ λ q. sym q
      ] refl

  -- before the first root no switch has a rank
  pub no_ranks : (ranks : List (Option ℕ)) → ranks ≡ replicate (length graph) None → AreRanksOf graph 0 ranks
  no_ranks ranks e = e ∙ all_none graph
    where
      all_none : (cs : List SwitchEdges) → replicate (length cs) None ≡ map (first_distance graph []) (guids_of cs)
      all_none [] = refl
      all_none (c ∷ cs) = ap (λ (xs : List (Option ℕ)). None ∷ xs) (all_none cs)

  -- a root gives its distances to the switches that have no rank yet
  pub ranks_filled : (n : ℕ) (ranks found new : List (Option ℕ)) → n < length guids → AreRanksOf graph n ranks → found
      ≡ map (distance graph (get_or guids n 0)) guids
      → length new ≡ length ranks → ((k : ℕ) → k < length new → get_or new k None ≡ option_or (get_or ranks k None) (get_or found k None))
      → AreRanksOf graph (n + 1) new
  ranks_filled n ranks found new h are is same each =
      let roots = take n guids in
      let root = get_or guids n 0 in
      let long : length ranks ≡ length guids = ap length are ∙ length_map (first roots) guids in
      ext_get_or None new (map (λ v. option_or (first roots v) (distance graph root v)) guids)
      (same ∙ long ∙ sym (length_map (λ v. option_or (first roots v) (distance graph root v)) guids))
      (λ k l. let m : k < length guids = omega arith in
      each k l
      ∙ ap (λ xs. option_or (get_or xs k None) (get_or found k None)) are
      ∙ ap (λ o. option_or o (get_or found k None)) (get_or-map (first roots) guids k 0 None m)
      ∙ ap (λ xs. option_or (first roots (get_or guids k 0)) (get_or xs k None)) is
      ∙ ap (option_or (first roots (get_or guids k 0))) (get_or-map (distance graph root) guids k 0 None m)
      ∙ sym (get_or-map (λ v. option_or (first roots v) (distance graph root v)) guids k 0 None m))
      ∙ map_same (λ v. option_or (first roots v) (distance graph root v)) (first (take (n + 1) guids)) guids
      (λ v k. sym (ap (λ rs. first rs v) (one_more_root n h) ∙ first_more roots root v))

module _ (graph : List SwitchEdges) (good : IsGraph graph) where
  is_root : (n root : ℕ) → Contains (take n (guids_of graph)) root → IsSwitch graph root
  is_root n root h = subst (λ (xs : List ℕ). Contains xs root) (take-append-drop n (guids_of graph))
      (Contains-append_left (take n (guids_of graph)) (drop n (guids_of graph)) root h)

  -- a switch that has a rank is no root: all that it reaches have a rank
  pub ranks_passed : (n : ℕ) (ranks : List (Option ℕ)) → n < length (guids_of graph) → AreRanksOf graph n ranks → is_some (get_or ranks n None) ≡ true
      → AreRanksOf graph (n + 1) ranks
  ranks_passed n ranks h are some =
      let guids = guids_of graph in
      let roots = take n guids in
      let root = get_or guids n 0 in
      let it = first_root graph roots root (ap is_some (sym (get_or-map (first_distance graph roots) guids n 0 None h) ∙ ap (λ xs. get_or xs n None) (sym are))
      ∙ some) in
      are ∙ map_same (first_distance graph roots) (first_distance graph (take (n + 1) guids)) guids
      (λ v k. reaches v it.0 it.1 it.2 ∙ sym (ap (λ rs. first_distance graph rs v) (one_more_root graph n h) ∙ first_more graph roots root v))
    where
      reaches : (v other : ℕ) → Contains (take n (guids_of graph)) other → in_one_component graph other (get_or (guids_of graph) n 0) ≡ true
          → first_distance graph (take n (guids_of graph)) v
          ≡ option_or (first_distance graph (take n (guids_of graph)) v) (distance graph (get_or (guids_of graph) n 0) v)
      reaches v other there joined =
          let roots = take n (guids_of graph) in
          let root = get_or (guids_of graph) n 0 in
          elim (first_distance graph roots v) as (λ o. first_distance graph roots v ≡ o → o ≡ option_or o (distance graph root v)) [
            | Some d ↦ λ e. refl
            | None ↦ λ e. (elim (distance graph root v) as (λ p. distance graph root v ≡ p → None ≡ p) [
              | None ↦ λ q. refl
              | Some d ↦ λ q. absurd (true≢false (sym (root_first graph roots v other there
                  (component_trans graph good other root v (is_root n other there) joined (ap is_some q))) ∙ ap is_some e))
            ] refl)
          ] refl

  -- after the last switch all have their ranks
  pub all_ranks : (n : ℕ) (ranks : List (Option ℕ)) → length (guids_of graph) ≤ n → AreRanksOf graph n ranks → ranks ≡ map (rank_of graph) (guids_of graph)
  all_ranks n ranks h are =
      let guids = guids_of graph in
      are ∙ ap (λ roots. map (first_distance graph roots) guids) (take_all n guids h)
      ∙ map_same (first_distance graph guids) (rank_of graph) guids (λ v k.
      first_is_found graph guids v ∙ ap (option_and_then (λ root. distance graph root v))
      (find_same (λ root. in_one_component graph root v) (in_one_component graph v) guids
      (λ x l. same_tests (in_one_component graph x v) (in_one_component graph v x) (component_symm graph good x v k) (component_symm graph good v x l))))
