-- Each vertex gets a label by two orders, the second of which grows over the tree of the first.
use Rattle.std.proofs.Common.{◌≡◌, ◌⊎◌, ◌∙◌, ◌<◌, ◌≤◌, ◌+◌, ◌-◌, ◌&&◌, ◌||◌, ◌==◌, ℕ, zero, suc, Bool, true, false, cond, not, List, [], ◌∷◌, length}
use Rattle.std.proofs.Common.{Option, None, Some, refl, sym, ap, subst, arith, inl, inr}
use Rattle.std.specs.Prelude.{Contains, map, nat_lt, reverse, slice_index_or}
use Rattle.std.specs.List.{list_any}
use Rattle.std.proofs.lemmas.Bool.{and_from, and_parts, cases_eq, cases_lt, eq-eqb, eqb-true, lt-ltb, ltb-true, or_cases}
use Rattle.std.proofs.lemmas.List.{get_or_past, get_or-reverse, length-reverse}
use Rattle.std.proofs.lemmas.List.FromFn.{get_or-map-range_with_len}
use Rattle.std.proofs.lemmas.Option.{same_Some}
use Rattle.smp_bytes.proofs.Members.{contains_cases, contains_filter, contains_here, contains_none}
use Rattle.port_graph.specs.declared.edge.Edge.{Edge}
use Rattle.port_graph.specs.Heads.{LeadToVertices, edges_at, heads}
use Rattle.port_graph.specs.Walks.{Walk}
use Rattle.port_graph.proofs.Indexing.{edges_below}
use Rattle.port_graph.proofs.Lists.{contains_map, contains_mapped}
use Rattle.port_graph.proofs.Paths.{walk_append, walk_reverse, walk_turned}
use Rattle.port_graph.proofs.WalkLemmas.{list_any_at, list_any_found}
use Rattle.spread_labels.specs.KeyOrder.{before_by}
use Rattle.spread_labels.specs.LabelLaws.{IsSymmetric}
use Rattle.spread_labels.specs.Orders.{IsGrownOrder, at_position, earliest, position_of}
use Rattle.spread_labels.proofs.ByPositions.{position_at, position_less}
use Rattle.spread_labels.proofs.Growing.{earliest_there, is_grown_order}
use Rattle.two_orders.specs.declared.labels.Sides.{Sides}
use Rattle.two_orders.specs.Growth.{grown_by, key_of, number_at, positions_in}
use Rattle.two_orders.specs.LabelLaws.{AllGetLabels, AreTargets, grown_twice}
use Rattle.two_orders.specs.Labels.{both_down, both_up, first_goes_up, goes_on, is_side, label_at, leads, leads_on, second_goes_up}
use Rattle.two_orders.specs.Trees.{all_earliest, earliest_beside, is_earlier, is_in_tree, tree}
use Rattle.two_orders.specs.TwoOrders.{TwoOrders}
use Rattle.two_orders.proofs.LabelLaws.{first_labels_stay, four, four_is, labelled_go_on}
use Rattle.two_orders.proofs.Reached.{Closed, IsParent, Parent, Tree, all_labelled_so}
use Rattle.two_orders.proofs.Reached.Parent.{root, up, down}
use Rattle.two_orders.proofs.Rounds.{Turn, first_round, label_of, last_round, second_round, third_round, turn_at}
use Rattle.two_orders.proofs.TreeEdges.{row, there, tree_is, tree_leads, tree_long, tree_symmetric}

-- the earliest is no later than each
pub earliest_low : (positions : List ℕ) (x : ℕ) (ys : List ℕ) (y : ℕ) → Contains (x ∷ ys) y
    → number_at positions (earliest (is_earlier positions) x ys) ≤ number_at positions y
earliest_low positions x [] y h =
    elim (contains_cases x y [] h) [ inl same ↦ omega (arith, ap (number_at positions) same) | inr none ↦ absurd (contains_none y none) ]
earliest_low positions x (w ∷ ys) y h =
    elim (is_earlier positions w x) as (λ b. is_earlier positions w x ≡ b
    → number_at positions (earliest (is_earlier positions) (cond b w x) ys) ≤ number_at positions y) [
      | true ↦ λ e.
          let less = ltb-true (number_at positions w) (number_at positions x) e in
          let here = earliest_low positions w ys w (contains_here w ys) in
          (elim (contains_cases x y (w ∷ ys) h) [
            | inl same ↦ omega (arith, less, here, ap (number_at positions) same)
            | inr rest ↦ earliest_low positions w ys y rest
          ])
      | false ↦ λ e.
          let here = earliest_low positions x ys x (contains_here x ys) in
          (elim (contains_cases x y (w ∷ ys) h) [
            | inl same ↦ omega (arith, here, ap (number_at positions) same)
            | inr rest ↦ (elim (contains_cases w y ys rest) [
              | inl same ↦ (elim (cases_lt (number_at positions w) (number_at positions x)) [
                | inl less ↦ (let t = lt-ltb (number_at positions w) (number_at positions x) less in absurd (cc))
                | inr more ↦ omega (arith, here, more, ap (number_at positions) same)
              ])
              | inr later ↦ earliest_low positions x ys y (shifted later)
            ])
          ])
    ] refl
  where
    shifted : Contains ys y → Contains (x ∷ ys) y
    shifted (k, less, e) = (suc k, omega arith, e)

not_up : (a b : Bool) → ((not a || true) && (not b || false)) ≡ true → b ≡ false
not_up a false g = refl
not_up true true g = absurd (cc)
not_up false true g = absurd (cc)

-- labels that go on from one that goes up by the first order alone
sides_of : (s : Sides) → s.second_up ≡ false → (s ≡ both_down) ⊎ (s ≡ first_goes_up)
sides_of s e =
    elim s.first_up as (λ b. s.first_up ≡ b → (s ≡ both_down) ⊎ (s ≡ first_goes_up)) [
      | false ↦ λ h. inl (λ i. record { first_up = h i; second_up = e i })
      | true ↦ λ h. inr (λ i. record { first_up = h i; second_up = e i })
    ] refl

module _ (edges : List (List Edge)) (lead : LeadToVertices edges) (symmetric : IsSymmetric edges) (told plan : List ℕ) where
  abbrev n : ℕ
  n = length edges

  abbrev R : List ℕ
  R = grown_by edges told

  abbrev first : List ℕ
  first = positions_in (grown_by edges told) (length edges)

  abbrev T : List (List Edge)
  T = tree edges (positions_in (grown_by edges told) (length edges))

  abbrev Q : List ℕ
  Q = grown_by (tree edges (positions_in (grown_by edges told) (length edges))) plan

  abbrev orders : TwoOrders
  orders = grown_twice edges told plan

  abbrev r : ℕ → ℕ
  r = number_at (positions_in (grown_by edges told) (length edges))

  abbrev q : ℕ → ℕ
  q = number_at (grown_twice edges told plan).second

  abbrev e : ℕ → ℕ
  e = number_at (all_earliest edges (positions_in (grown_by edges told) (length edges)))

  is_r : IsGrownOrder edges R
  is_r = is_grown_order edges lead (before_by (map key_of told))

  is_q : IsGrownOrder T Q
  is_q = is_grown_order T (tree_leads edges first lead) (before_by (map key_of plan))

  t_long : length T ≡ n
  t_long = tree_long edges first

  r_at : (v : ℕ) → v < n → r v ≡ position_of R v
  r_at v less = get_or-map-range_with_len (position_of R) 0 n v v 0 less (omega arith)

  q_at : (v : ℕ) → v < n → q v ≡ position_of Q v
  q_at v less = get_or-map-range_with_len (position_of Q) 0 n v v 0 less (omega arith)

  r_stands : (v : ℕ) → v < n → (r v < length R) × (at_position R (r v) ≡ v)
  r_stands v less =
      let p = position_less R v (is_r.all v less) in
      (omega (arith, p.0, r_at v less), ap (at_position R) (r_at v less) ∙ p.1)

  q_stands : (v : ℕ) → v < n → (q v < length Q) × (at_position Q (q v) ≡ v)
  q_stands v less =
      let p = position_less Q v (is_q.all v (omega (arith, less, t_long))) in
      (omega (arith, p.0, q_at v less), ap (at_position Q) (q_at v less) ∙ p.1)

  r_same : (v w : ℕ) → v < n → w < n → r v ≡ r w → v ≡ w
  r_same v w v_in w_in same = sym (r_stands v v_in).1 ∙ ap (at_position R) same ∙ (r_stands w w_in).1

  q_same : (v w : ℕ) → v < n → w < n → q v ≡ q w → v ≡ w
  q_same v w v_in w_in same = sym (q_stands v v_in).1 ∙ ap (at_position Q) same ∙ (q_stands w w_in).1

  -- the position of a vertex
  r_of : (k v : ℕ) → k < length R → at_position R k ≡ v → v < n → r v ≡ k
  r_of k v less is v_in = r_at v v_in ∙ ap (position_of R) (sym is) ∙ position_at R is_r.once k less

  q_of : (k v : ℕ) → k < length Q → at_position Q k ≡ v → v < n → q v ≡ k
  q_of k v less is v_in = q_at v v_in ∙ ap (position_of Q) (sym is) ∙ position_at Q is_q.once k less

  e_at : (v : ℕ) → v < n → e v ≡ earliest_beside edges first v
  e_at v less = get_or-map-range_with_len (earliest_beside edges first) 0 n v v 0 less (omega arith)

  head_below : (v w : ℕ) → Contains (heads edges v) w → w < n
  head_below v w h =
      let x = contains_map (λ (x : Edge). x.to) (edges_at edges v) w h in
      omega (arith, lead v x.0 x.1, x.2)

  e_there : (v : ℕ) → v < n → (v ≡ e v) ⊎ Contains (heads edges v) (e v)
  e_there v less =
      elim (contains_cases v (earliest_beside edges first v) (heads edges v) (earliest_there (is_earlier first) (heads edges v) v)) [
        | inl same ↦ inl (same ∙ sym (e_at v less))
        | inr h ↦ inr (subst (λ (x : ℕ). Contains (heads edges v) x) (sym (e_at v less)) h)
      ]

  e_below : (v : ℕ) → v < n → e v < n
  e_below v less = elim (e_there v less) [ inl same ↦ omega (arith, less, same) | inr h ↦ head_below v (e v) h ]

  e_low : (v : ℕ) → v < n → r (e v) ≤ r v
  e_low v less =
      let low = earliest_low first v (heads edges v) v (contains_here v (heads edges v)) in
      omega (arith, low, ap r (e_at v less))

  e_least : (v w : ℕ) → v < n → Contains (heads edges v) w → r (e v) ≤ r w
  e_least v w less (k, within, is) =
      let low = earliest_low first v (heads edges v) w (suc k, omega (arith, within), is) in
      omega (arith, low, ap r (e_at v less))

  e_less : (v : ℕ) → v < n → (v ≡ e v → ⊥) → r (e v) < r v
  e_less v less differs =
      elim (cases_lt (r (e v)) (r v)) [
        | inl lower ↦ lower
        | inr more ↦
            let low = e_low v less in
            absurd (differs (r_same v (e v) less (e_below v less) (omega (arith, more, low))))
      ]

  -- an edge of the tree
  tree_head : (v w : ℕ) → Contains (heads T v) w → Contains (heads edges v) w × ((e v ≡ w) ⊎ (e w ≡ v))
  tree_head v w h =
      let x = contains_map (λ (x : Edge). x.to) (edges_at T v) w h in
      let in_by = subst (λ (es : List (List Edge)). Contains (edges_at es v) x.0) (tree_is edges first) x.1 in
      let own = there edges (all_earliest edges first) v x.0 in_by in (
        subst (λ (y : ℕ). Contains (heads edges v) y) x.2 (contains_mapped (λ (x : Edge). x.to) (edges_at edges v) x.0 own.0),
        by x.0.to x.2 (or_cases (e v == x.0.to) (e x.0.to == v) own.1),
      )
    where
      by : (y : ℕ) → y ≡ w → ((e v == y) ≡ true) ⊎ ((e y == v) ≡ true) → (e v ≡ w) ⊎ (e w ≡ v)
      by y same (inl h) = inl (eqb-true (e v) y h ∙ same)
      by y same (inr h) = inr (ap e (sym same) ∙ eqb-true (e y) v h)

  tree_edge : (v : ℕ) → v < n → (v ≡ e v → ⊥) → Contains (heads T v) (e v)
  tree_edge v less differs =
      let own : Contains (heads edges v) (e v) = (elim (e_there v less) [ inl same ↦ absurd (differs same) | inr h ↦ h ]) in
      let x = contains_map (λ (x : Edge). x.to) (edges_at edges v) (e v) own in
      let test : is_in_tree (all_earliest edges first) v x.0 ≡ true =
      ap (λ b. b || (e x.0.to == v)) (eq-eqb (e v) x.0.to (sym x.2)) in
      let kept = contains_filter (is_in_tree (all_earliest edges first) v) (edges_at edges v) x.0 x.1 test in
      let in_by = subst (λ (es : List Edge). Contains es x.0) (sym (row edges (all_earliest edges first) v less)) kept in
      let in_tree = subst (λ (es : List (List Edge)). Contains (edges_at es v) x.0) (sym (tree_is edges first)) in_by in
      subst (λ (y : ℕ). Contains (heads T v) y) x.2 (contains_mapped (λ (x : Edge). x.to) (edges_at T v) x.0 in_tree)

  t_symmetric : IsSymmetric T
  t_symmetric = tree_symmetric edges first symmetric

  back_over : (x y : ℕ) → Contains (heads T x) y → Contains (heads edges y) x
  back_over x y h = symmetric x y (tree_head x y h).0

  -- over the tree a walk leads to a vertex that has no earlier one beside it
  record Top (a : ℕ) : Type 0 where
    vertex : ℕ
    below : vertex < n
    long : ℕ
    walk : Walk (heads T) a vertex long
    is_top : vertex ≡ e vertex

  top_by : (a : ℕ) → a < n → ((b : ℕ) → b < n → r b < r a → Top b) → Top a
  top_by a less rest =
      elim (cases_eq a (e a)) [
        | inl same ↦ record { vertex = a; below = less; long = 0; walk = refl; is_top = same }
        | inr differs ↦
            let x = rest (e a) (e_below a less) (e_less a less differs) in
            record { vertex = x.vertex; below = x.below; long = suc x.long; walk = (e a, tree_edge a less differs, x.walk); is_top = x.is_top }
      ]

  top_in : (k a : ℕ) → a < n → r a ≤ k → Top a
  top_in zero a less few = top_by a less (λ b b_in lower. absurd (omega (arith, lower, few)))
  top_in (suc k) a less few = top_by a less (λ b b_in lower. top_in k b b_in (omega (arith, lower, few)))

  -- no walk leads from one such vertex to an earlier one
  no_later_top : (a b m : ℕ) → a < n → b < n → a ≡ e a → Walk (heads edges) a b m → r b < r a → ⊥
  no_later_top a b m a_in b_in top walk less =
      let at = r_stands a a_in in
      let to = r_stands b b_in in
      let w = subst (λ (x : ℕ × ℕ). Walk (heads edges) x.0 x.1 m) (λ i. (sym at.1 i, sym to.1 i)) walk in
      let x = is_r.grown (r a) (r b) m at.0 less w in
      let h = subst (λ (y : ℕ). Contains (heads edges y) x.0.to) at.1
      (contains_mapped (λ (x : Edge). x.to) (edges_at edges (at_position R (r a))) x.0 x.1) in
      let below = head_below a x.0.to h in
      let stands = r_of x.2.0 x.0.to (omega (arith, x.2.1, at.0)) x.2.2 below in
      let low = e_least a x.0.to a_in h in
      omega (arith, low, stands, x.2.1, ap r top)

  module _ (t : ℕ) (t_in : t < length edges) where
    -- a walk leads from a vertex to t
    abbrev C : ℕ → Type 0
    C v = (v < length edges) × ((k : ℕ) × Walk (heads edges) v t k)

    joined : (a b : ℕ) → C a → C b → (m : ℕ) × Walk (heads edges) a b m
    joined a b a_in b_in = (
      a_in.1.0 + b_in.1.0,
      walk_append (heads edges) a_in.1.0 b_in.1.0 a t b a_in.1.1 (walk_reverse (heads edges) symmetric b_in.1.0 b t b_in.1.1),
    )

    -- so over the tree walks lead from each to each
    spanned : (a b : ℕ) → C a → C b → (m : ℕ) × Walk (heads T) a b m
    spanned a b a_in b_in =
        let x = top_in (r a) a a_in.0 (omega arith) in
        let y = top_in (r b) b b_in.0 (omega arith) in
        let to_a = walk_turned (heads T) (heads edges) back_over x.long a x.vertex x.walk in
        let to_b = walk_turned (heads T) (heads edges) back_over y.long b y.vertex y.walk in
        let between = joined a b a_in b_in in
        let from_b = walk_reverse (heads edges) symmetric y.long y.vertex b to_b in
        let half = walk_append (heads edges) x.long between.0 x.vertex a b to_a between.1 in
        let whole = walk_append (heads edges) (x.long + between.0) y.long x.vertex b y.vertex half from_b in
        let long = (x.long + between.0) + y.long in
        let turned = walk_reverse (heads edges) symmetric long x.vertex y.vertex whole in
        let same : x.vertex ≡ y.vertex =
        (elim (cases_lt (r x.vertex) (r y.vertex)) [
          | inl less ↦ absurd (no_later_top y.vertex x.vertex long y.below x.below y.is_top turned less)
          | inr more ↦ (elim (cases_lt (r y.vertex) (r x.vertex)) [
            | inl less ↦ absurd (no_later_top x.vertex y.vertex long x.below y.below x.is_top whole less)
            | inr low ↦ r_same x.vertex y.vertex x.below y.below (omega (arith, more, low))
          ])
        ]) in
        let down = walk_reverse (heads T) t_symmetric y.long b y.vertex y.walk in (
          x.long + y.long,
          walk_append (heads T) x.long y.long a x.vertex b x.walk (subst (λ (z : ℕ). Walk (heads T) z b y.long) (sym same) down),
        )

    beside : (v w : ℕ) → C v → Contains (heads edges v) w → C w
    beside v w v_in h = (head_below v w h, (suc v_in.1.0, (v, symmetric v w h, v_in.1.1)))

    abbrev E : ℕ → ℕ → Type 0
    E v w = Contains (heads edges v) w

    -- the parent of a vertex by the second order
    abbrev test : ℕ → Edge → Bool
    test v x = nat_lt (q x.to) (q v)

    parent_of : (lab : ℕ → Option Sides) (v : ℕ) → C v → Parent r q e lab C E v
    parent_of lab v v_in =
        elim (list_any (test v) (edges_at T v)) as (λ b. list_any (test v) (edges_at T v) ≡ b → Parent r q e lab C E v) [
          | true ↦ λ h.
              let x = list_any_found (test v) (edges_at T v) h in
              let less = ltb-true (q x.0.to) (q v) x.2 in
              let head = tree_head v x.0.to (contains_mapped (λ (y : Edge). y.to) (edges_at T v) x.0 x.1) in
              by x.0.to head.0 less head.1
          | false ↦ λ h. root (λ u u_in. least h u u_in)
        ] refl
      where
        by : (u : ℕ) → Contains (heads edges v) u → q u < q v → (e v ≡ u) ⊎ (e u ≡ v) → Parent r q e lab C E v
        by u h less (inl own) =
            let differs : v ≡ e v → ⊥ = λ same. omega (arith, less, ap q (same ∙ own)) in
            let p : IsParent r q e lab C E v u = record { among = beside v u v_in h; there = h; back = symmetric v u h; earlier = less } in
            up u p own (omega (arith, e_less v v_in.0 differs, ap r own))
        by u h less (inr own) =
            let u_in = beside v u v_in h in
            let differs : u ≡ e u → ⊥ = λ same. omega (arith, less, ap q (same ∙ own)) in
            let p : IsParent r q e lab C E v u = record { among = u_in; there = h; back = symmetric v u h; earlier = less } in
            down u p own (omega (arith, e_less u u_in.0 differs, ap r own))

        least : list_any (test v) (edges_at T v) ≡ false → (u : ℕ) → C u → q v ≤ q u
        least none u u_in =
            elim (cases_lt (q u) (q v)) [
              | inr more ↦ more
              | inl less ↦
                  let at = q_stands v v_in.0 in
                  let to = q_stands u u_in.0 in
                  let walk = spanned v u v_in u_in in
                  let w = subst (λ (x : ℕ × ℕ). Walk (heads T) x.0 x.1 walk.0) (λ i. (sym at.1 i, sym to.1 i)) walk.1 in
                  let x = is_q.grown (q v) (q u) walk.0 at.0 less w in
                  let own = subst (λ (y : ℕ). Contains (edges_at T y) x.0) at.1 x.1 in
                  let below = head_below v x.0.to (tree_head v x.0.to (contains_mapped (λ (y : Edge). y.to) (edges_at T v) x.0 own)).0 in
                  let stands = q_of x.2.0 x.0.to (omega (arith, x.2.1, at.0)) x.2.2 below in
                  let passes : test v x.0 ≡ true = lt-ltb (q x.0.to) (q v) (omega (arith, stands, x.2.1)) in
                  let some = list_any_at (test v) (edges_at T v) x.0 own passes in
                  absurd (cc)
            ]

    tree_of : (lab : ℕ → Option Sides) → Tree r q e lab C E
    tree_of lab = record {
      parent = parent_of lab;
      same = λ v w v_in w_in is. q_same v w v_in.0 w_in.0 is;
      stays = λ v v_in. (elim (e_there v v_in.0) [ inl same ↦ subst C same v_in | inr h ↦ beside v (e v) v_in h ]);
      falls = λ v v_in. e_low v v_in.0;
      edge = λ v v_in rises. (
          let differs : v ≡ e v → ⊥ = λ same. omega (arith, rises, ap q same) in
          (elim (e_there v v_in.0) [ inl same ↦ absurd (differs same) | inr h ↦ (symmetric v (e v) h, e_less v v_in.0 differs) ]));
    }

    module _ (firsts : List (Option Sides)) (targets : AreTargets edges firsts) (t_is : label_at firsts t ≡ Some both_down) where
      abbrev lab : ℕ → Option Sides
      lab = label_of edges orders firsts targets.down

      leads_by : (s : Sides) (v w : ℕ) → is_side orders.first s.first_up v w ≡ true → is_side orders.second s.second_up v w ≡ true
          → leads orders s v w ≡ true
      leads_by s v w one other = and_from (is_side orders.first s.first_up v w) (is_side orders.second s.second_up v w) one other

      -- turns in the rounds
      rising_turn : (v w : ℕ) → v < n → w < n → q w < q v → Turn Q v w
      rising_turn v w v_in w_in less =
          let at = q_stands v v_in in
          turn_at Q (q v) v w at.1 at.0 (λ k more within is. omega (arith, more, less, q_of k w within is w_in))

      falling_turn : (v w : ℕ) → v < n → w < n → q v < q w → Turn (reverse Q) v w
      falling_turn v w v_in w_in less =
          let at = q_stands v v_in in
          let long = length-reverse Q in
          let j = length Q - 1 - q v in
          let back : length Q - 1 - j ≡ q v = omega (arith, at.0) in
          let stands : slice_index_or (reverse Q) j 0 ≡ v = get_or-reverse Q j 0 (omega (arith, at.0)) ∙ ap (at_position Q) back ∙ at.1 in
          turn_at (reverse Q) j v w stands (omega (arith, at.0, long)) (λ k more within is. (
          let there_is = sym (get_or-reverse Q k 0 (omega (arith, within, long))) ∙ is in
          let own = q_of (length Q - 1 - k) w (omega (arith, within, long)) there_is w_in in
          omega (arith, more, less, own, within, long, at.0)))

      edge_of : (v w : ℕ) → Contains (heads edges v) w → (x : Edge) × Contains (edges_at edges v) x × (x.to ≡ w)
      edge_of v w h = contains_map (λ (x : Edge). x.to) (edges_at edges v) w h

      long_enough : (v : ℕ) → v < n → v < length firsts
      long_enough v less = omega (arith, less, targets.as_many)

      at_first : (v : ℕ) (s : Sides) → label_at firsts v ≡ Some s → lab v ≡ Some both_down
      at_first v s h = from_firsts v (h ∙ ap (λ (x : Sides). Some x) (targets.down v s h))
        where
          from_firsts : (v : ℕ) → label_at firsts v ≡ Some both_down → lab v ≡ Some both_down
          from_firsts v h = first_labels_stay edges orders firsts v both_down h

      ends_by : (v : ℕ) → C v → lab v ≡ Some first_goes_up
          → ((w : ℕ) → C w → r w < r v → lab w ≡ Some first_goes_up → (x : ℕ) × C x × (lab x ≡ Some both_down) × (r x < r w))
          → (x : ℕ) × C x × (lab x ≡ Some both_down) × (r x < r v)
      ends_by v v_in h rest =
          let same = four_is edges orders firsts in
          let none : label_at firsts v ≡ None =
          (elim (label_at firsts v) as (λ o. label_at firsts v ≡ o → o ≡ None) [
            | None ↦ λ k. refl
            | Some s ↦ λ k. (
                let own = at_first v s k in
                let clash : false ≡ true = ap (λ (x : Sides). x.first_up) (same_Some both_down first_goes_up (sym own ∙ h)) in
                absurd (cc))
          ] refl) in
          let x = labelled_go_on edges orders firsts v first_goes_up (ap (λ ls. label_at ls v) same ∙ h) none in
          let is : x.2.label ≡ first_goes_up =
          same_Some x.2.label first_goes_up (sym (ap (λ ls. label_at ls v) (sym same) ∙ x.2.has) ∙ h) in
          let led : leads_on orders (four edges orders firsts) first_goes_up v x.0.to ≡ true =
          sym (λ i. leads_on orders (same i) (is i) v x.0.to) ∙ x.2.leads in
          let parts = and_parts (leads orders first_goes_up v x.0.to) (goes_on first_goes_up (lab x.0.to)) led in
          let sides = and_parts (is_side orders.first true v x.0.to) (is_side orders.second false v x.0.to) parts.0 in
          let less = ltb-true (r x.0.to) (r v) sides.0 in
          let there_in = beside v x.0.to v_in (contains_mapped (λ (y : Edge). y.to) (edges_at edges v) x.0 x.1) in
          by x.0.to less there_in (lab x.0.to) refl parts.1
        where
          by : (w : ℕ) → r w < r v → C w → (o : Option Sides) → lab w ≡ o → goes_on first_goes_up o ≡ true
              → (x : ℕ) × C x × (lab x ≡ Some both_down) × (r x < r v)
          by w less w_in None is g = absurd (cc)
          by w less w_in (Some s) is g =
              let second : s.second_up ≡ false = not_up s.first_up s.second_up g in
              elim (sides_of s second) [
                | inl both ↦ (w, w_in, is ∙ ap (λ (x : Sides). Some x) both, less)
                | inr one ↦ (
                    let x = rest w w_in less (is ∙ ap (λ (x : Sides). Some x) one) in
                    (x.0, x.1, x.2, omega (arith, x.3, less)))
              ]

      ends_in : (k v : ℕ) → C v → lab v ≡ Some first_goes_up → r v ≤ k → (x : ℕ) × C x × (lab x ≡ Some both_down) × (r x < r v)
      ends_in zero v v_in h few = ends_by v v_in h (λ w w_in less own. absurd (omega (arith, less, few)))
      ends_in (suc k) v v_in h few = ends_by v v_in h (λ w w_in less own. ends_in k w w_in own (omega (arith, less, few)))

      closed_so : Closed r q e lab C E
      closed_so = record {
        one = λ v w v_in h up_r up_q own. (
            let x = edge_of v w h in
            first_round edges orders firsts targets.down v w x.0 (long_enough v v_in.0)
            (falling_turn v w v_in.0 (head_below v w h) up_q) x.1 x.2
            (leads_by both_down v w (lt-ltb (r v) (r w) up_r) (lt-ltb (q v) (q w) up_q)) own);
        two = λ v w v_in h low_r up_q own. (
            let x = edge_of v w h in
            second_round edges orders firsts targets.down v w x.0 (long_enough v v_in.0)
            (falling_turn v w v_in.0 (head_below v w h) up_q) x.1 x.2
            (leads_by first_goes_up v w (lt-ltb (r w) (r v) low_r) (lt-ltb (q v) (q w) up_q)) own);
        three = λ v w v_in h up_r low_q own. (
            let x = edge_of v w h in
            third_round edges orders firsts targets.down v w x.0 (long_enough v v_in.0)
            (rising_turn v w v_in.0 (head_below v w h) low_q) x.1 x.2
            (leads_by second_goes_up v w (lt-ltb (r v) (r w) up_r) (lt-ltb (q w) (q v) low_q)) own);
        four = λ v w s v_in h low_r low_q own. (
            let x = edge_of v w h in
            last_round edges orders firsts targets.down v w x.0 s (long_enough v v_in.0)
            (rising_turn v w v_in.0 (head_below v w h) low_q) x.1 x.2
            (leads_by both_up v w (lt-ltb (r w) (r v) low_r) (lt-ltb (q w) (q v) low_q)) own);
        ends = λ v v_in h. ends_in (r v) v v_in h (omega arith);
      }

      pub each_has_label : (v : ℕ) → C v → (s : Sides) × (lab v ≡ Some s)
      each_has_label v v_in =
          all_labelled_so r q e lab C E closed_so (tree_of lab) t (t_in, (0, refl)) (at_first t both_down t_is) v v_in

-- a walk begins at a vertex if it ends at one
begins_below : (edges : List (List Edge)) (v t k : ℕ) → t < length edges → Walk (heads edges) v t k → v < length edges
begins_below edges v t zero less same = omega (arith, less, same)
begins_below edges v t (suc k) less (w, h, rest) =
    let x = contains_map (λ (x : Edge). x.to) (edges_at edges v) w h in edges_below edges v x.0 x.1

pub all_get_labels : AllGetLabels
all_get_labels edges lead symmetric told plan firsts targets v t n walk t_is =
    let orders = grown_twice edges told plan in
    let t_in : t < length edges =
    (elim (cases_lt t (length edges)) [
      | inl less ↦ less
      | inr past ↦ (let none : label_at firsts t ≡ None = get_or_past firsts t None (omega (arith, past, targets.as_many)) in absurd (cc))
    ]) in
    let x = each_has_label edges lead symmetric told plan t t_in firsts targets t_is v (begins_below edges v t n t_in walk, (n, walk)) in
    (x.0, ap (λ ls. label_at ls v) (four_is edges orders firsts) ∙ x.1)
