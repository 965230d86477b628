-- Roots that are found one after another, by rising GUID.
use Rattle.std.proofs.Common.{◌≡◌, ◌<◌, ◌≤◌, ◌+◌, ℕ, suc, List, [], ◌∷◌, ◌++◌, inl, inr, refl, sym, ap, ◌∙◌, subst, arith, true, false, cond, map, length, get_or, take, drop}
use Rattle.std.proofs.lemmas.Bool.{true≢false}
use Rattle.std.proofs.lemmas.List.{get_or-map, ext_get_or, take-append-drop, take_all}
use Rattle.std.proofs.lemmas.List.Elements.{Contains-append_left}
use Rattle.std.proofs.Math.Seq.{take-suc}
use Rattle.std.specs.Prelude.{Option, None, Some, Contains, is_some, option_map, replicate}
use Rattle.std.specs.Option.{option_or}
use Rattle.std.specs.List.{find}
use Rattle.smp_bytes.proofs.Members.{contains_here, contains_later, contains_cases, contains_none}
use Rattle.port_graph.proofs.Counts.{length_map}
use Rattle.subnet_view.specs.SwitchEdges.{SwitchEdges}
use Rattle.subnet_view.specs.Graph.{guids_of}
use Rattle.subnet_view.specs.GraphLaws.{IsGraph, IsSwitch}
use Rattle.subnet_view.specs.Components.{distance, in_one_component, root_of}
use Rattle.subnet_view.proofs.Components.{find_same, same_tests, component_symm, component_trans}
use Rattle.subnet_view.proofs.Walked.{map_same}

-- the first of these that reaches the switch
abbrev pub first_root : List SwitchEdges → List ℕ → ℕ → Option ℕ
first_root graph roots v = find (λ root. in_one_component graph root v) roots

-- what the first so many switches reach
abbrev pub AreRootsOf : List SwitchEdges → ℕ → List (Option ℕ) → Type 0
AreRootsOf graph n roots = roots ≡ map (first_root graph (take n (guids_of graph))) (guids_of graph)

module _ (graph : List SwitchEdges) where
  abbrev first : List ℕ → ℕ → Option ℕ
  first = first_root graph

  abbrev guids : List ℕ
  guids = guids_of graph

  -- the root, where there is a distance from it
  abbrev reached : ℕ → ℕ → Option ℕ
  reached root v = option_map (λ d. root) (distance graph root v)

  first_more : (roots : List ℕ) (root v : ℕ) → first (roots ++ root ∷ []) v ≡ option_or (first roots v) (reached root v)
  first_more [] root v =
      elim (distance graph root v) as (λ o. cond (is_some o) (Some root) None ≡ option_map (λ d. root) o) [ None ↦ refl | Some d ↦ refl ]
  first_more (x ∷ roots) root v =
      elim (in_one_component graph x v) as (λ t. cond t (Some x) (first (roots ++ root ∷ []) v)
      ≡ option_or (cond t (Some x) (first roots v)) (reached root v)) [
        | true ↦ refl
        | false ↦ first_more roots root v
      ]

  one_more : (n : ℕ) → n < length guids → take (n + 1) guids ≡ take n guids ++ get_or guids n 0 ∷ []
  one_more n h = let e : n + 1 ≡ suc n = omega arith in ap (λ k. take k guids) e ∙ take-suc guids n 0 h

  -- one that reaches it, where the first is found
  one_there : (roots : List ℕ) (v : ℕ) → is_some (first roots v) ≡ true → (root : ℕ) × Contains roots root × (in_one_component graph root v ≡ true)
  one_there [] v e = absurd (cc)
  one_there (x ∷ roots) v e =
      elim (in_one_component graph x v) as (λ t. in_one_component graph x v ≡ t → is_some (cond t (Some x) (first roots v)) ≡ true
      → (root : ℕ) × Contains (x ∷ roots) root × (in_one_component graph root v ≡ true)) [
        | true ↦ λ q k. (x, contains_here x roots, q)
        | false ↦ λ q k. let i = one_there roots v k in (i.0, contains_later x i.0 roots i.1, i.2)
      ] refl e

  -- and the first is found, where one reaches it
  first_there : (roots : List ℕ) (v root : ℕ) → Contains roots root → in_one_component graph root v ≡ true → is_some (first roots v) ≡ true
  first_there [] v root h e = absurd (contains_none root h)
  first_there (x ∷ roots) v root h e =
      elim (in_one_component graph x v) as (λ t. in_one_component graph x v ≡ t → is_some (cond t (Some x) (first roots v)) ≡ true) [
        | true ↦ λ q. refl
        | false ↦ λ q. (elim (contains_cases x root roots h) [
          | inl i ↦ absurd (true≢false (sym e ∙ ap (λ y. in_one_component graph y v) (sym i) ∙ q))
          | inr k ↦ first_there roots v root k e
        ])
      ] refl

  -- before the first switch none has a root
  pub no_roots : (roots : List (Option ℕ)) → roots ≡ replicate (length graph) None → AreRootsOf graph 0 roots
  no_roots roots e = e ∙ all_none graph
    where
      all_none : (cs : List SwitchEdges) → replicate (length cs) None ≡ map (first_root graph []) (guids_of cs)
      all_none [] = refl
      all_none (c ∷ cs) = ap (λ (xs : List (Option ℕ)). None ∷ xs) (all_none cs)

  -- a switch is the root of those that it reaches and that have none yet
  pub roots_filled : (n : ℕ) (roots found new : List (Option ℕ)) → n < length guids → AreRootsOf graph n roots → found
      ≡ map (distance graph (get_or guids n 0)) guids
      → length new ≡ length roots
      → ((k : ℕ) → k < length new → get_or new k None ≡ option_or (get_or roots k None) (option_map (λ d. get_or guids n 0) (get_or found k None)))
      → AreRootsOf graph (n + 1) new
  roots_filled n roots found new h are is same each =
      let before = take n guids in
      let root = get_or guids n 0 in
      let long : length roots ≡ length guids = ap length are ∙ length_map (first before) guids in
      ext_get_or None new (map (λ v. option_or (first before v) (reached root v)) guids)
      (same ∙ long ∙ sym (length_map (λ v. option_or (first before v) (reached root v)) guids))
      (λ k l. let m : k < length guids = omega arith in
      each k l
      ∙ ap (λ xs. option_or (get_or xs k None) (option_map (λ d. root) (get_or found k None))) are
      ∙ ap (λ o. option_or o (option_map (λ d. root) (get_or found k None))) (get_or-map (first before) guids k 0 None m)
      ∙ ap (λ xs. option_or (first before (get_or guids k 0)) (option_map (λ d. root) (get_or xs k None))) is
      ∙ ap (λ o. option_or (first before (get_or guids k 0)) (option_map (λ d. root) o)) (get_or-map (distance graph root) guids k 0 None m)
      ∙ sym (get_or-map (λ v. option_or (first before v) (reached root v)) guids k 0 None m))
      ∙ map_same (λ v. option_or (first before v) (reached root v)) (first (take (n + 1) guids)) guids
      (λ v k. sym (ap (λ rs. first rs v) (one_more n h) ∙ first_more before root v))

module _ (graph : List SwitchEdges) (good : IsGraph graph) where
  is_before : (n root : ℕ) → Contains (take n (guids_of graph)) root → IsSwitch graph root
  is_before n root h = subst (λ (xs : List ℕ). Contains xs root) (take-append-drop n (guids_of graph))
      (Contains-append_left (take n (guids_of graph)) (drop n (guids_of graph)) root h)

  -- a switch that has a root is none: all that it reaches have one
  pub roots_passed : (n : ℕ) (roots : List (Option ℕ)) → n < length (guids_of graph) → AreRootsOf graph n roots → is_some (get_or roots n None) ≡ true
      → AreRootsOf graph (n + 1) roots
  roots_passed n roots h are some =
      let guids = guids_of graph in
      let before = take n guids in
      let root = get_or guids n 0 in
      let it = one_there graph before root (ap is_some (sym (get_or-map (first_root graph before) guids n 0 None h) ∙ ap (λ xs. get_or xs n None) (sym are))
      ∙ some) in
      are ∙ map_same (first_root graph before) (first_root graph (take (n + 1) guids)) guids
      (λ v k. reaches v it.0 it.1 it.2 ∙ sym (ap (λ rs. first_root graph rs v) (one_more graph n h) ∙ first_more graph before root v))
    where
      reaches : (v other : ℕ) → Contains (take n (guids_of graph)) other → in_one_component graph other (get_or (guids_of graph) n 0) ≡ true
          → first_root graph (take n (guids_of graph)) v
          ≡ option_or (first_root graph (take n (guids_of graph)) v)
          (option_map (λ d. get_or (guids_of graph) n 0) (distance graph (get_or (guids_of graph) n 0) v))
      reaches v other there joined =
          let before = take n (guids_of graph) in
          let root = get_or (guids_of graph) n 0 in
          elim (first_root graph before v) as (λ o. first_root graph before v ≡ o → o ≡ option_or o (option_map (λ d. root) (distance graph root v))) [
            | Some d ↦ λ e. refl
            | None ↦ λ e. (elim (distance graph root v) as (λ p. distance graph root v ≡ p → None ≡ option_map (λ d. root) p) [
              | None ↦ λ q. refl
              | Some d ↦ λ q. absurd (true≢false (sym (first_there graph before v other there
                  (component_trans graph good other root v (is_before n other there) joined (ap is_some q))) ∙ ap is_some e))
            ] refl)
          ] refl

  -- after the last switch all have their roots
  pub all_roots : (n : ℕ) (roots : List (Option ℕ)) → length (guids_of graph) ≤ n → AreRootsOf graph n roots → roots ≡ map (root_of graph) (guids_of graph)
  all_roots n roots h are =
      let guids = guids_of graph in
      are ∙ ap (λ before. map (first_root graph before) guids) (take_all n guids h)
      ∙ map_same (first_root graph guids) (root_of graph) guids (λ v k.
      find_same (λ root. in_one_component graph root v) (in_one_component graph v) guids
      (λ x l. same_tests (in_one_component graph x v) (in_one_component graph v x) (component_symm graph good x v k) (component_symm graph good v x l)))
