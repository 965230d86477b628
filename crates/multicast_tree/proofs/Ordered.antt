-- In the order by which a rule plans, each switch but the first of its component has a neighbor before it.
use Rattle.std.proofs.Common.{◌≡◌, ◌<◌, ℕ, zero, suc, List, refl, sym, ap, ◌∙◌, subst, arith, true, false, ◌==◌}
use Rattle.std.proofs.lemmas.Bool.{eq-eqb, eqb-true}
use Rattle.std.proofs.lemmas.List.{get_or-map}
use Rattle.std.proofs.lemmas.List.Sums.{length-filter}
use Rattle.std.proofs.lemmas.Option.{same_Some}
use Rattle.std.specs.Prelude.{Some, Contains, map, unwrap_or}
use Rattle.fact_store.specs.View.{Facts, cells_of}
use Rattle.port_graph.specs.declared.edge.Edge.{Edge}
use Rattle.port_graph.specs.Walks.{Walk}
use Rattle.port_graph.proofs.Counts.{filtered_less}
use Rattle.port_graph.proofs.Lists.{contains_map, contains_mapped}
use Rattle.subnet_view.specs.Reading.{switches}
use Rattle.subnet_view.specs.SwitchEdges.{SwitchEdges}
use Rattle.subnet_view.specs.Graph.{edges_at, graph_of, guids_of, neighbors}
use Rattle.subnet_view.specs.GraphLaws.{IsGraph, IsSwitch}
use Rattle.subnet_view.specs.Components.{distance, root_of}
use Rattle.subnet_view.proofs.Components.{is_switch_before, joined, prior, root_before, rooted, same_root, walk_joins, walk_of}
use Rattle.subnet_view.proofs.Graphs.{graph_law}
use Rattle.subnet_view.proofs.GraphSwitches.{graph_guids}
use Rattle.updown_routes.specs.Ranks.{is_before, rank_of}
use Rattle.updown_routes.proofs.Before.{before_trans, below_lex, lesser, lex_below, not_before_itself, tied}
use Rattle.updown_routes.proofs.ComponentCosts.{rank_is}
use Rattle.updown_routes.proofs.Ranks.{before_total}
use Rattle.spread_labels.specs.declared.key_order.VertexKey.{VertexKey}
use Rattle.spread_labels.specs.Orders.{position_of}
use Rattle.spread_labels.proofs.ByPositions.{position_less, walk_by_positions}
use Rattle.spread_routes.specs.Adapters.{adapters_of}
use Rattle.spread_routes.specs.Rule.{by_index, order_by_keys, position, switch_there}
use Rattle.spread_routes.specs.Spread.{keys_by, switches_in_order}
use Rattle.spread_routes.specs.SwitchOrder.{OrderValue, switches_by_keys}
use Rattle.spread_routes.proofs.Indices.{as_many, index_within, leads_below, switch_of_index, there_and_back, walk_between}
use Rattle.spread_routes.proofs.Names.{grows, is_grown_graph, is_named, position_of_switch, switch_at_position}
use Rattle.spread_routes.proofs.OrderLaws.{below, same_number}
use Rattle.lft_blocks.specs.Rule.{RuleValue, order_of, spread_in, up_and_down}
use Rattle.plan_order.specs.PlanOrder.{positions_by, rank_position}
use Rattle.multicast_tree.specs.Tree.{position_in}

-- positions tell switches apart, and a switch from which a walk leads to an earlier one has an earlier neighbor
pub record AreOrdered (graph : List SwitchEdges) (position_by : ℕ → ℕ) : Type 0 where
  pub apart : (g h : ℕ) → IsSwitch graph g → IsSwitch graph h → position_by g ≡ position_by h → g ≡ h
  pub earlier : (g v n : ℕ) → IsSwitch graph g → IsSwitch graph v → Walk (neighbors graph) g v n → position_by v < position_by g
      → (e : Edge) × Contains (edges_at graph g) e × (position_by e.to < position_by g)

-- by rank ---------------------------------------------------------------------------------
module _ (graph : List SwitchEdges) (good : IsGraph graph) where
  rank_less : (a b : ℕ) → IsSwitch graph b → is_before graph b a ≡ true → rank_position graph b < rank_position graph a
  rank_less a b hb e =
      let less = filtered_less (λ x. is_before graph x b) (λ x. is_before graph x a) (λ x k. before_trans graph x b a k e) (guids_of graph) b hb
      (not_before_itself graph b) e in
      omega (arith, less, length-filter (λ x. is_before graph x b) (guids_of graph), length-filter (λ x. is_before graph x a) (guids_of graph))

  -- of two switches, the one at the lesser position is before the other
  pub is_less : (a b : ℕ) → IsSwitch graph a → rank_position graph b < rank_position graph a → is_before graph b a ≡ true
  is_less a b ha l =
      elim (is_before graph b a) as (λ t. is_before graph b a ≡ t → t ≡ true) [
        | true ↦ λ e. refl
        | false ↦ λ e. (elim (b == a) as (λ t. (b == a) ≡ t → false ≡ true) [
          | true ↦ λ s. absurd (let same = ap (rank_position graph) (eqb-true b a s) in omega arith)
          | false ↦ λ s. absurd
              (let more = rank_less b a ha (before_total graph b a (λ same. absurd (let z = eq-eqb b a same in cc)) e) in omega arith)
        ]) refl
      ] refl

  ranked_apart : (g h : ℕ) → IsSwitch graph g → IsSwitch graph h → rank_position graph g ≡ rank_position graph h → g ≡ h
  ranked_apart g h is_g is_h e =
      elim (g == h) as (λ t. (g == h) ≡ t → g ≡ h) [
        | true ↦ λ s. eqb-true g h s
        | false ↦ λ s. (elim (is_before graph g h) as (λ t. is_before graph g h ≡ t → g ≡ h) [
          | true ↦ λ b. absurd (let less = rank_less h g is_g b in omega arith)
          | false ↦ λ b. absurd
              (let less = rank_less g h is_h (before_total graph g h (λ same. absurd (let z = eq-eqb g h same in cc)) b) in omega arith)
        ]) refl
      ] refl

  before_by_rank : (u g m n : ℕ) → rank_of graph u ≡ Some m → rank_of graph g ≡ Some n → m < n → is_before graph u g ≡ true
  before_by_rank u g m n ru rg l =
      let eu : unwrap_or (rank_of graph u) 0 ≡ m = ap (λ o. unwrap_or o 0) ru in
      let eg : unwrap_or (rank_of graph g) 0 ≡ n = ap (λ o. unwrap_or o 0) rg in
      below_lex (unwrap_or (rank_of graph u) 0) u (unwrap_or (rank_of graph g) 0) g (lesser (omega arith))

  -- nothing in its component is before a root
  none_before : (g v root k : ℕ) → root_of graph g ≡ Some root → distance graph root g ≡ Some 0 → root_of graph v ≡ Some root
      → distance graph root v ≡ Some k → is_before graph v g ≡ true → ⊥
  none_before g v root k eg dg ev dv b =
      let rv : unwrap_or (rank_of graph v) 0 ≡ k = ap (λ o. unwrap_or o 0) (rank_is graph good v root k ev dv) in
      let rg : unwrap_or (rank_of graph g) 0 ≡ 0 = ap (λ o. unwrap_or o 0) (rank_is graph good g root 0 eg dg) in
      elim (lex_below (unwrap_or (rank_of graph v) 0) v (unwrap_or (rank_of graph g) 0) g b) [
        | lesser l ↦ omega arith
        | tied i l ↦
            let zero_is : k ≡ 0 = sym rv ∙ i ∙ rg in
            let at_g : root ≡ g = walk_of graph good root g 0 dg in
            let at_v : root ≡ v = walk_of graph good root v 0 (dv ∙ ap Some zero_is) in
            omega arith
      ]

  ranked_earlier : (g v n : ℕ) → IsSwitch graph g → IsSwitch graph v → Walk (neighbors graph) g v n → rank_position graph v < rank_position graph g
      → (e : Edge) × Contains (edges_at graph g) e × (rank_position graph e.to < rank_position graph g)
  ranked_earlier g v n hg hv w l =
      let r = rooted graph good g hg in
      let s = rooted graph good v hv in
      let d = walk_joins graph good n g v hg w in
      let roots : root_of graph v ≡ Some r.root = sym (same_root graph good g v hg hv (joined graph good g v d.0 d.1)) ∙ r.is_root in
      let same : s.root ≡ r.root = same_Some s.root r.root (sym s.is_root ∙ roots) in
      by_rank r.root r.rank r.is_root r.is_rank s.rank roots (subst (λ (x : ℕ). distance graph x v ≡ Some s.rank) same s.is_rank)
    where
      by_rank : (root k : ℕ) → root_of graph g ≡ Some root → distance graph root g ≡ Some k → (m : ℕ) → root_of graph v ≡ Some root
          → distance graph root v ≡ Some m → (e : Edge) × Contains (edges_at graph g) e × (rank_position graph e.to < rank_position graph g)
      by_rank root zero eg dg m ev dv = absurd (none_before g v root m eg dg ev dv (is_less g v hg l))
      by_rank root (suc k) eg dg m ev dv =
          let u = prior graph good root g k dg in
          let eu = root_before graph good u.0 g root hg u.2 eg in
          let x = contains_map (λ (y : Edge). y.to) (edges_at graph g) u.0 (good.both_ways u.0 g u.2) in
          let b = before_by_rank u.0 g k (suc k) (rank_is graph good u.0 root k eu u.1) (rank_is graph good g root (suc k) eg dg) (omega arith) in
          let less = rank_less g u.0 (is_switch_before graph good u.0 g u.2) b in
          (x.0, x.1, subst (λ (y : ℕ). rank_position graph y < rank_position graph g) (sym x.2) less)

  pub ranks_are_ordered : AreOrdered graph (rank_position graph)
  ranks_are_ordered = record { apart = ranked_apart; earlier = ranked_earlier }

-- in an order that grows --------------------------------------------------------------------
module _ (graph : List SwitchEdges) (keys : List VertexKey) (good : IsGraph graph) where
  abbrev q : ℕ → ℕ
  q g = position graph keys g

  grown_earlier : (g v n : ℕ) → IsSwitch graph g → IsSwitch graph v → Walk (neighbors graph) g v n → q v < q g
      → (e : Edge) × Contains (edges_at graph g) e × (q e.to < q g)
  grown_earlier g v n hg hv w l =
      let d = walk_joins graph good n g v hg w in
      let index = walk_between graph good g v hg (joined graph good g v d.0 d.1) in
      let placed = walk_by_positions (by_index graph) (order_by_keys graph keys) (leads_below graph good) (there_and_back graph good) (grows graph keys good)
      index.0 (position_of (guids_of graph) g) (position_of (guids_of graph) v) (index_within graph good g hg) index.1 in
      let e = (is_grown_graph graph keys good).grown (q g) (q v) index.0 placed l in
      let named = is_named graph keys good (q g) e.0 e.1 in
      let to = position_of_switch graph keys good e.0.to named.to_within in (
        record { port = e.0.port; to = switch_there graph keys e.0.to },
        subst (λ (x : ℕ). Contains (edges_at graph x) (record { port = e.0.port; to = switch_there graph keys e.0.to })) (switch_at_position graph keys good g hg) named.wire,
        (let less = e.2 in omega arith),
      )

  pub grown_are_ordered : AreOrdered graph (position graph keys)
  grown_are_ordered =
      record {
        apart = λ g h hg hh e. sym (switch_at_position graph keys good g hg) ∙ ap (switch_there graph keys) e ∙ switch_at_position graph keys good h hh;
        earlier = grown_earlier;
      }

  -- the position_by in the list of the switches' GUIDs is the position
  pub position_named : (g : ℕ) → IsSwitch graph g → position_of (switches_by_keys graph keys) g ≡ position graph keys g
  position_named g hg =
      let i = position_of (guids_of graph) g in
      let at = switch_of_index graph good g hg in
      ap (position_of (switches_by_keys graph keys)) (sym at)
      ∙ same_number graph keys good (order_by_keys graph keys) i (below graph keys good) (omega (arith, index_within graph good g hg, as_many graph good))

-- by a rule -----------------------------------------------------------------------------------
-- positions that are equal at each switch are ordered alike
ordered_alike : (graph : List SwitchEdges) (one other : ℕ → ℕ) → IsGraph graph → ((g : ℕ) → IsSwitch graph g → other g ≡ one g) → AreOrdered graph one
    → AreOrdered graph other
ordered_alike graph one other good same o =
    record {
      apart = λ g h hg hh e. o.apart g h hg hh (sym (same g hg) ∙ e ∙ same h hh);
      earlier = λ g v n hg hv w l.
          let e = o.earlier g v n hg hv w (let a = same g hg in let b = same v hv in omega arith) in
          let to = good.leads_to_switch g e.0.to (contains_mapped (λ (y : Edge). y.to) (edges_at graph g) e.0 e.1) in
          (e.0, e.1, (let a = same g hg in let b = same e.0.to to in let less = e.2 in omega arith));
    }

position_value : (f : ℕ → ℕ) (guids : List ℕ) (g : ℕ) → Contains guids g → position_in guids (map f guids) g ≡ f g
position_value f guids g h =
    let p = position_less guids g h in
    get_or-map f guids (position_of guids g) 0 0 p.0 ∙ ap f p.1

in_order_is : (graph : List SwitchEdges) (adapters : List ℕ) (order : OrderValue)
    → switches_in_order graph adapters order ≡ switches_by_keys graph (keys_by graph adapters order)
unfolding switches_in_order
in_order_is graph adapters order = refl

-- the position of a switch in the order by rank
pub ranked_position : (facts : Facts) (g : ℕ) → IsSwitch (graph_of (cells_of facts)) g
    → position_in (switches (cells_of facts)) (positions_by up_and_down (cells_of facts)) g ≡ rank_position (graph_of (cells_of facts)) g
ranked_position facts g h =
    let cells = cells_of facts in
    let graph = graph_of cells in
    ap (λ (gs : List ℕ). position_in gs (positions_by up_and_down cells) g) (sym (graph_guids cells))
    ∙ position_value (rank_position graph) (guids_of graph) g h

-- the position of a switch in the order of a rule that spreads
pub spread_position : (order : OrderValue) (facts : Facts) (g : ℕ) → IsSwitch (graph_of (cells_of facts)) g
    → position_in (switches (cells_of facts)) (positions_by (spread_in order) (cells_of facts)) g
    ≡ position (graph_of (cells_of facts)) (keys_by (graph_of (cells_of facts)) (adapters_of (cells_of facts)) order) g
spread_position order facts g h =
    let cells = cells_of facts in
    let graph = graph_of cells in
    ap (λ (gs : List ℕ). position_in gs (positions_by (spread_in order) cells) g) (sym (graph_guids cells))
    ∙ position_value (position_of (order_of order cells)) (guids_of graph) g h
    ∙ ap (λ (vs : List ℕ). position_of vs g) (in_order_is graph (adapters_of cells) order)
    ∙ position_named graph (keys_by graph (adapters_of cells) order) (graph_law facts) g h

pub rules_order : (rule : RuleValue) (facts : Facts)
    → AreOrdered (graph_of (cells_of facts)) (position_in (switches (cells_of facts)) (positions_by rule (cells_of facts)))
rules_order up_and_down facts =
    let cells = cells_of facts in
    ordered_alike (graph_of cells) (rank_position (graph_of cells)) (position_in (switches cells) (positions_by up_and_down cells)) (graph_law facts)
    (ranked_position facts) (ranks_are_ordered (graph_of cells) (graph_law facts))
rules_order (spread_in order) facts =
    let cells = cells_of facts in
    let keys = keys_by (graph_of cells) (adapters_of cells) order in
    ordered_alike (graph_of cells) (position (graph_of cells) keys) (position_in (switches cells) (positions_by (spread_in order) cells)) (graph_law facts)
    (spread_position order facts) (grown_are_ordered (graph_of cells) keys (graph_law facts))
