-- Up is to lesser positions, and down to greater.
use Rattle.std.proofs.Common.{◌≡◌, ◌<◌, ◌+◌, ℕ, List, [], ◌∷◌, ◌++◌, inl, inr, refl, sym, ap, ◌∙◌, subst, arith, Bool, true, false, cond, ◌==◌, ◌&&◌, ◌||◌, map, length, get_or}
use Rattle.std.proofs.lemmas.Bool.{lt-ltb, ltb-true, cases_order, cases_lt}
use Rattle.std.proofs.lemmas.Grind.{get_or_default_zero}
use Rattle.std.proofs.lemmas.List.{get_or-map, get_or_push, get_or_append_left, length-append}
use Rattle.std.proofs.lemmas.List.Kept.{AllPairs-from_increasing}
use Rattle.std.specs.Prelude.{Option, None, Contains, nat_lt, filter, unwrap_or}
use Rattle.std.specs.Cmp.{both_ways}
use Rattle.smp_bytes.proofs.Members.{contains_here, contains_later, contains-from_filter}
use Rattle.port_graph.specs.declared.edge.Edge.{Edge}
use Rattle.port_graph.specs.Heads.{edges_at as edges_by_index}
use Rattle.port_graph.proofs.Counts.{length_map}
use Rattle.port_graph.proofs.Lists.{contains_map}
use Rattle.subnet_view.specs.SwitchEdges.{SwitchEdges}
use Rattle.subnet_view.specs.Graph.{guids_of, edges_at}
use Rattle.subnet_view.specs.GraphLaws.{IsGraph}
use Rattle.subnet_view.specs.SwitchGraph.{by_guid, switch_at, LeadBelow}
use Rattle.updown_routes.specs.Ranks.{rank_of, is_before}
use Rattle.updown_routes.specs.Order.{goes_before, IsOrder, ArePositions}
use Rattle.updown_routes.specs.Positions.{switch_at_position, by_position, at_position, ups_from, downs_from, IsAtPosition}
use Rattle.updown_routes.proofs.Before.{lex_below, lex_below_trans, never_below, ups_filter, downs_filter}

-- a filter of one map is that of another, where their tests agree
filter_moved : {X Y Z : Type 0} (f : X → Y) (g : X → Z) (r : Z → Y) (u : Y → Bool) (t : Z → Bool) (xs : List X)
    → ((x : X) → Contains xs x → (u (f x) ≡ t (g x)) × (f x ≡ r (g x))) → filter u (map f xs) ≡ map r (filter t (map g xs))
filter_moved f g r u t [] h = refl
filter_moved {Y = Y} {Z = Z} f g r u t (x ∷ xs) h =
    let here = h x (contains_here x xs) in
    let rest = filter_moved f g r u t xs (λ y k. h y (contains_later x y xs k)) in
    let mine : Bool → List Y = λ b. cond b (f x ∷ filter u (map f xs)) (filter u (map f xs)) in
    let theirs : Bool → List Z = λ b. cond b (g x ∷ filter t (map g xs)) (filter t (map g xs)) in
    ap mine here.0 ∙ (elim (t (g x)) as (λ b. mine b ≡ map r (theirs b)) [ true ↦ (λ i. here.1 i ∷ rest i) | false ↦ rest ])

module _ (ranks : List (Option ℕ)) where
  abbrev rank : ℕ → ℕ
  rank a = unwrap_or (get_or ranks a None) 0

  not_itself : (a : ℕ) → goes_before ranks a a ≡ true → ⊥
  not_itself a e = never_below (rank a) a (lex_below (rank a) a (rank a) a e)

  not_both : (a b : ℕ) → goes_before ranks a b ≡ true → goes_before ranks b a ≡ true → ⊥
  not_both a b e f =
      never_below (rank a) a (lex_below_trans (rank a) a (rank b) b (rank a) a (lex_below (rank a) a (rank b) b e) (lex_below (rank b) b (rank a) a f))

module _ (ranks : List (Option ℕ)) (order : List ℕ) (is : IsOrder ranks order) where
  -- positions are as their switches
  position_test : (p q : ℕ) → p < length order → q < length order → nat_lt p q ≡ goes_before ranks (get_or order p 0) (get_or order q 0)
  position_test p q h k =
      both_ways (nat_lt p q) (goes_before ranks (get_or order p 0) (get_or order q 0)) (λ e. is.rises p q (ltb-true p q e) k)
      (λ e. (elim (cases_order p q) [
        | inl same ↦ absurd (not_itself ranks (get_or order q 0) (ap (λ x. goes_before ranks (get_or order x 0) (get_or order q 0)) (sym same) ∙ e))
        | inr (inl l) ↦ lt-ltb p q l
        | inr (inr l) ↦ absurd (not_both ranks (get_or order p 0) (get_or order q 0) e (is.rises q p l h))
      ]))

  -- each index has its position
  module _ (positions : List ℕ) (are : ArePositions order positions) where
    -- the order has an index at its position
    pub position_back : (j : ℕ) → j < length ranks → (get_or order (get_or positions j 0) 0 ≡ j) × (get_or positions j 0 < length order)
    position_back j h =
        let c = is.each j h in
        let e : get_or order c.0 0 ≡ j = sym (get_or_default_zero order c.0 j c.1) ∙ c.2 in
        let position : get_or positions j 0 ≡ c.0 = sym (ap (λ k. get_or positions k 0) e) ∙ are.position c.0 c.1 in
        (ap (λ k. get_or order k 0) position ∙ e, omega (arith, c.1))

module _ (graph : List SwitchEdges) (good : IsGraph graph) where
  abbrev guids : List ℕ
  guids = guids_of graph

  abbrev ranks : List (Option ℕ)
  ranks = map (rank_of graph) guids

  -- the order of indices is that of their switches
  by_rank : (a b : ℕ) → a < length guids → b < length guids → goes_before ranks a b ≡ is_before graph (switch_at graph a) (switch_at graph b)
  by_rank a b h k =
      let ra : unwrap_or (get_or ranks a None) 0 ≡ unwrap_or (rank_of graph (get_or guids a 0)) 0 =
      ap (λ o. unwrap_or o 0) (get_or-map (rank_of graph) guids a 0 None h) in
      let rb : unwrap_or (get_or ranks b None) 0 ≡ unwrap_or (rank_of graph (get_or guids b 0)) 0 =
      ap (λ o. unwrap_or o 0) (get_or-map (rank_of graph) guids b 0 None k) in
      let lt = both_ways (nat_lt a b) (nat_lt (get_or guids a 0) (get_or guids b 0))
      (λ e. lt-ltb (get_or guids a 0) (get_or guids b 0) (AllPairs-from_increasing guids good.rising a b 0 (ltb-true a b e) k))
      (λ e. (elim (cases_order a b) [
        | inl same ↦ absurd (omega (arith, ltb-true (get_or guids a 0) (get_or guids b 0) e, ap (λ x. get_or guids x 0) same))
        | inr (inl l) ↦ lt-ltb a b l
        | inr (inr l) ↦ absurd (omega (arith, ltb-true (get_or guids a 0) (get_or guids b 0) e, AllPairs-from_increasing guids good.rising b a 0 l h))
      ])) in
      λ i. nat_lt (ra i) (rb i) || (ra i == rb i && lt i)

  module _ (order positions : List ℕ) (is : IsOrder ranks order) (are : ArePositions order positions) where
    abbrev position : ℕ → ℕ
    position j = get_or positions j 0

    many : length ranks ≡ length guids
    many = length_map (rank_of graph) guids

    -- a lesser position is that of a switch before it
    before_test : (p j : ℕ) → p < length order → j < length guids → is_before graph (switch_at graph j) (switch_at_position graph order p)
        ≡ nat_lt (position j) p
    before_test p j h k =
        let b = position_back ranks order is positions are j (omega (arith, many)) in
        sym (position_test ranks order is (position j) p b.1 h ∙ ap (λ x. goes_before ranks x (get_or order p 0)) b.0
        ∙ by_rank j (get_or order p 0) k (omega (arith, is.within p h, many)))

    after_test : (p j : ℕ) → p < length order → j < length guids → is_before graph (switch_at_position graph order p) (switch_at graph j)
        ≡ nat_lt p (position j)
    after_test p j h k =
        let b = position_back ranks order is positions are j (omega (arith, many)) in
        sym (position_test ranks order is p (position j) h b.1 ∙ ap (goes_before ranks (get_or order p 0)) b.0
        ∙ by_rank (get_or order p 0) j (omega (arith, is.within p h, many)) k)

    -- by its position an edge leads to the same switch
    same_edge : (e : Edge) → e.to < length guids → by_guid guids e ≡ by_position graph order (at_position positions e)
    same_edge e h =
        let b = position_back ranks order is positions are e.to (omega (arith, many)) in
        let edge : ℕ → Edge = λ g. record { port = e.port; to = g } in
        ap edge (ap (λ k. get_or guids k 0) (sym b.0))

    -- the wires up and down of the switch at a position
    pub row_at_position : (p : ℕ) (es : List Edge) → p < length order → LeadBelow (length graph) es → map (by_guid guids) es
        ≡ edges_at graph (switch_at_position graph order p)
        → IsAtPosition graph order p (ups_from p (map (at_position positions) es)) (downs_from p (map (at_position positions) es))
    row_at_position p es h lead same =
        let s = switch_at_position graph order p in
        let below : (e : Edge) → Contains es e → e.to < length guids = λ e k. omega (arith, lead e k, length_map (λ (x : SwitchEdges). x.guid) graph) in
        let up : Edge → Bool = λ e. is_before graph e.to s in
        let down : Edge → Bool = λ e. is_before graph s e.to in
        record {
          up = ups_filter graph graph s ∙ ap (filter up) (sym same)
              ∙ filter_moved (by_guid guids) (at_position positions) (by_position graph order) up (λ e. nat_lt e.to p) es
              (λ e k. (before_test p e.to h (below e k), same_edge e (below e k)));
          down = downs_filter graph graph s ∙ ap (filter down) (sym same)
              ∙ filter_moved (by_guid guids) (at_position positions) (by_position graph order) down (λ e. nat_lt p e.to) es
              (λ e k. (after_test p e.to h (below e k), same_edge e (below e k)));
          to_lesser = λ e k. ltb-true e.to p (contains-from_filter (λ (x : Edge). nat_lt x.to p) (map (at_position positions) es) e k).1;
          to_position = λ e k.
              let x = contains_map (at_position positions) es e (contains-from_filter (λ (y : Edge). nat_lt p y.to) (map (at_position positions) es) e k).0 in
              omega (arith, ap (λ (y : Edge). y.to) x.2, (position_back ranks order is positions are x.0.to (omega (arith, below x.0 x.1, many))).1);
        }

-- position by position
module _ (graph : List SwitchEdges) (order : List ℕ) where
  -- the wires of the switches at the first positions
  abbrev pub AreAtPositionsTo : ℕ → List (List Edge) → List (List Edge) → Type 0
  AreAtPositionsTo n ups downs =
      (length ups ≡ n) × (length downs ≡ n) × ((p : ℕ) → p < n → IsAtPosition graph order p (edges_by_index ups p) (edges_by_index downs p))

  -- the wires of the switch at one more position
  pub one_more_position : (n : ℕ) (ups downs : List (List Edge)) (up down : List Edge) → AreAtPositionsTo n ups downs → IsAtPosition graph order n up down
      → AreAtPositionsTo (n + 1) (ups ++ up ∷ []) (downs ++ down ∷ [])
  one_more_position n ups downs up down (lu, ld, all) here = (
    length-append ups (up ∷ []) ∙ omega arith,
    length-append downs (down ∷ []) ∙ omega arith,
    λ p h. (elim (cases_lt p n) [
      | inl l ↦ subst (λ (x : List Edge × List Edge). IsAtPosition graph order p x.0 x.1)
          (λ i. (sym (get_or_append_left ups (up ∷ []) [] p (omega arith)) i, sym (get_or_append_left downs (down ∷ []) [] p (omega arith)) i)) (all p l)
      | inr l ↦
          let e : n ≡ p = omega arith in
          subst (λ (x : List Edge × List Edge). IsAtPosition graph order p x.0 x.1)
          (λ i. (sym (get_or_push ups up [] p (lu ∙ e)) i, sym (get_or_push downs down [] p (ld ∙ e)) i))
          (subst (λ (k : ℕ). IsAtPosition graph order k up down) e here)
    ]),
  )
