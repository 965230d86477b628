-- The positions by which plans are made are orders.
use Rattle.std.proofs.Common.{◌≡◌, ℕ, zero, suc, ◌<◌, ◌≤◌, Bool, true, false, List, [], ◌∷◌, length, None, Some, refl, sym, ap, ◌∙◌, subst, arith, inl, inr}
use Rattle.std.specs.Prelude.{◌==◌, Contains, slice_get, slice_index_or, count_by}
use Rattle.std.proofs.lemmas.Bool.{and_parts, eqb-true, cases_lt, cases_order}
use Rattle.std.proofs.lemmas.List.{get_or_past}
use Rattle.std.proofs.lemmas.List.FromFn.{get_or-map-range_with_len, length-map-range_with_len}
use Rattle.std.proofs.lemmas.List.Sums.{length-filter}
use Rattle.fact_store.specs.View.{Facts, cells_of}
use Rattle.port_graph.specs.declared.edge.Edge.{Edge}
use Rattle.port_graph.proofs.Counts.{filtered_all}
use Rattle.subnet_view.specs.Reading.{Cells, switches, is_switch_node}
use Rattle.subnet_view.specs.SwitchEdges.{SwitchEdges}
use Rattle.subnet_view.specs.Graph.{graph_of, guids_of, edges_at}
use Rattle.subnet_view.specs.GraphLaws.{IsGraph, IsSwitch}
use Rattle.subnet_view.specs.Components.{in_one_component}
use Rattle.subnet_view.specs.Wires.{across}
use Rattle.subnet_view.proofs.EdgeLists.{has_end}
use Rattle.subnet_view.proofs.Graphs.{graph_law, wire_is_edge}
use Rattle.subnet_view.proofs.GraphSwitches.{graph_guids, switch_usable}
use Rattle.spread_labels.specs.Orders.{grown_behind, next_placed, numbers_from, without}
use Rattle.spread_labels.specs.KeyOrder.{before_by}
use Rattle.spread_labels.specs.declared.key_order.VertexKey.{VertexKey}
use Rattle.spread_routes.specs.Rule.{by_index, position, switch_there}
use Rattle.spread_routes.specs.SwitchOrder.{OrderValue}
use Rattle.spread_routes.proofs.Indices.{as_many, distinct}
use Rattle.spread_routes.proofs.Names.{all_positioned, position_within, switch_at_position}
use Rattle.updown_routes.specs.Ranks.{is_before}
use Rattle.updown_routes.proofs.Before.{not_before_itself}
use Rattle.updown_routes.proofs.Ranks.{before_total}
use Rattle.held_tables.specs.declared.far_end.Far.TheVariants.{Nothing, Switch}
use Rattle.held_tables.specs.declared.far_end.Far.{Far}
use Rattle.held_tables.specs.Switches.{far_at, far_of, far_to, index_in, row_of}
use Rattle.packet_walks.proofs.EntrySteps.{index_is}
use Rattle.next_tables.proofs.Entries.{member}
use Rattle.next_tables.proofs.Steps.{at_index}
use Rattle.next_tables.specs.SwitchPositions.{AreApart, IsOrder, IsWired, switch_at}
use Rattle.plan_order.specs.PlanOrder.{rank_position}
use Rattle.table_laws.proofs.plan_orders.PlanRight.{keys, spread_position}
use Rattle.table_laws.proofs.plan_orders.UpdownRight.{counted_less, differs, rank_at, rank_less, same_component}

-- the order has no more than the vertices
grown_most : (edges : List (List Edge)) (before : ℕ → ℕ → Bool) (n : ℕ) (placed rest : List ℕ) → length (grown_behind edges before n placed rest) ≤ n
grown_most edges before zero placed rest = omega arith
grown_most edges before (suc n) placed [] = omega arith
grown_most edges before (suc n) placed (x ∷ rest) =
    let y = next_placed edges before placed x rest in
    let more = grown_most edges before n (y ∷ placed) (without y (x ∷ rest)) in
    omega (arith, more)

module _ (facts : Facts) where
  abbrev cells : Cells
  cells = cells_of facts

  abbrev graph : List SwitchEdges
  graph = graph_of (cells_of facts)

  abbrev good : IsGraph (graph_of (cells_of facts))
  good = graph_law facts

  pub is_switch : (i : ℕ) → i < length (switches cells) → IsSwitch graph (switch_at cells i)
  is_switch i less =
      subst (λ (xs : List ℕ). Contains xs (switch_at cells i)) (sym (graph_guids cells)) (member (switches cells) i less)

  count_is : length (by_index graph) ≡ length (switches cells)
  count_is = as_many graph good ∙ ap (λ (xs : List ℕ). length xs) (graph_guids cells)

  -- different indices have different switches
  one_index : (i j : ℕ) → i < length (switches cells) → j < length (switches cells) → switch_at cells i ≡ switch_at cells j → i ≡ j
  one_index i j i_less j_less e =
      elim (cases_order i j) [
        | inl same ↦ same
        | inr (inl less) ↦ absurd (apart j i j_less less e)
        | inr (inr more) ↦ absurd (apart i j i_less more (sym e))
      ]
    where
      apart : (a b : ℕ) → a < length (switches (cells_of facts)) → b < a → switch_at (cells_of facts) b ≡ switch_at (cells_of facts) a → ⊥
      apart a b a_less less e =
          distinct (graph_of (cells_of facts)) (graph_law facts) a b
          (subst (λ (xs : List ℕ). a < length xs) (sym (graph_guids (cells_of facts))) a_less) less
          (subst (λ (xs : List ℕ). slice_index_or xs b 0 ≡ slice_index_or xs a 0) (sym (graph_guids (cells_of facts))) e)

  module _ (keys : List VertexKey) where
    abbrev q : ℕ → ℕ
    q i = position (graph_of (cells_of facts)) keys (switch_at (cells_of facts) i)

    few : (i : ℕ) → i < length (switches cells) → q i < length (switches cells)
    few i less =
        let within = position_within graph keys good (switch_at cells i) (is_switch i less) in
        let many = all_positioned graph keys good in
        let most = grown_most (by_index graph) (before_by keys) (length (by_index graph)) [] (numbers_from 0 (length (by_index graph))) in
        omega (arith, within, many, most, count_is)

    one : (i j : ℕ) → i < length (switches cells) → j < length (switches cells) → q i ≡ q j → i ≡ j
    one i j i_less j_less e =
        one_index i j i_less j_less
        (sym (switch_at_position graph keys good (switch_at cells i) (is_switch i i_less)) ∙ ap (switch_there graph keys) e
        ∙ switch_at_position graph keys good (switch_at cells j) (is_switch j j_less))

pub spread_orders_are_orders : (order : OrderValue) (facts : Facts)
    → IsOrder (cells_of facts) (spread_position (cells_of facts) order) × AreApart (cells_of facts) (spread_position (cells_of facts) order)
spread_orders_are_orders order facts =
    let its = keys (cells_of facts) order in
    (λ i less. few facts its i less, λ i j i_less j_less wired e. one facts its i j i_less j_less e)

-- up and down
same_switch : (k index : ℕ) → ◌≡◌ {A = Far} (Switch k) (Switch index) → k ≡ index
same_switch k index h = cc

wire_of_far : (cells : Cells) (g p j : ℕ) → far_of cells g p ≡ Switch j
    → (q : ℕ × ℕ) × (across cells g p ≡ Some q) × (slice_get (switches cells) j ≡ Some q.0)
wire_of_far cells g p j e =
    (elim (across cells g p) as (λ o. far_to (switches cells) o ≡ Switch j
    → (q : ℕ × ℕ) × (o ≡ Some q) × (slice_get (switches cells) j ≡ Some q.0)) [
      | None ↦ λ h. absurd (cc)
      | Some q ↦ λ h. (elim (index_in (switches cells) q.0) as (λ k. index_in (switches cells) q.0 ≡ k → far_at q k ≡ Switch j
          → (x : ℕ × ℕ) × (Some q ≡ Some x) × (slice_get (switches cells) j ≡ Some x.0)) [
            | None ↦ λ is over. absurd (cc)
            | Some k ↦ λ is over.
                (q, refl, ap (slice_get (switches cells)) (sym (same_switch k j over)) ∙ index_is (switches cells) q.0 k is)
          ] refl h)
    ]) e

wire_of : (cells : Cells) (g p j : ℕ) → slice_index_or (row_of cells g) p Nothing ≡ Switch j
    → (q : ℕ × ℕ) × (across cells g p ≡ Some q) × (slice_get (switches cells) j ≡ Some q.0)
wire_of cells g p j h =
    elim (cases_lt p 255) [
      | inl less ↦ wire_of_far cells g p j (sym (get_or-map-range_with_len (far_of cells g) 0 255 p p Nothing less (omega arith)) ∙ h)
      | inr more ↦
          let past : slice_index_or (row_of cells g) p Nothing ≡ Nothing =
          get_or_past (row_of cells g) p Nothing (omega (arith, length-map-range_with_len (far_of cells g) 0 255)) in absurd (cc)
    ]

counted_all : (p : ℕ → Bool) (xs : List ℕ) → count_by p xs ≤ length xs
counted_all p xs = omega (arith, filtered_all p xs, length-filter p xs)

module _ (facts : Facts) where
  abbrev its_cells : Cells
  its_cells = cells_of facts

  abbrev its_graph : List SwitchEdges
  its_graph = graph_of (cells_of facts)

  less_than_all : (g : ℕ) → IsSwitch its_graph g → rank_position its_graph g < length (switches its_cells)
  less_than_all g is =
      let below = counted_less (λ x. is_before its_graph x g) (λ x. true) (λ x k. refl) (guids_of its_graph) g is (not_before_itself its_graph g) refl in
      let all = counted_all (λ x. true) (guids_of its_graph) in
      let long : length (guids_of its_graph) ≡ length (switches its_cells) = ap (λ (xs : List ℕ). length xs) (graph_guids its_cells) in
      omega (arith, below, all, long)

  pub in_one : (i j : ℕ) → i < length (switches its_cells) → j < length (switches its_cells) → IsWired its_cells i j
      → in_one_component its_graph (switch_at its_cells i) (switch_at its_cells j) ≡ true
  in_one i j i_less j_less wired =
      let g = switch_at its_cells i in
      let h = switch_at its_cells j in
      let by = wire_of its_cells g wired.0 j wired.1 in
      let to : h ≡ by.0.0 = at_index (switches its_cells) j by.0.0 0 by.2 in
      let usable = switch_usable facts h (member (switches its_cells) j j_less) in
      let e : Edge = record { port = wired.0; to = h } in
      same_component its_graph (graph_law facts) g h (is_switch facts i i_less)
      (has_end (edges_at its_graph g) e
      (wire_is_edge its_cells g wired.0 h (member (switches its_cells) i i_less)
      (record { end_port = by.0.1; wire = by.1 ∙ ap (λ (x : ℕ). Some (x, by.0.1)) (sym to); is_switch = (and_parts (is_switch_node its_cells h) _ usable).0 })))

  -- of two different ones the one is before the other
  ranked_apart : (g h : ℕ) → IsSwitch its_graph g → IsSwitch its_graph h → rank_position its_graph g ≡ rank_position its_graph h → g ≡ h
  ranked_apart g h is_g is_h e =
      (elim (g == h) as (λ t. (g == h) ≡ t → g ≡ h) [
        | true ↦ λ s. eqb-true g h s
        | false ↦ λ s. (elim (is_before its_graph g h) as (λ t. is_before its_graph g h ≡ t → g ≡ h) [
          | true ↦ λ b. let less = rank_less its_graph (graph_law facts) h g is_g b in absurd (omega (arith, less, e))
          | false ↦ λ b.
              let less = rank_less its_graph (graph_law facts) g h is_h (before_total its_graph g h (λ same. differs g h s same) b) in
              absurd (omega (arith, less, e))
        ]) refl
      ]) refl

pub updown_orders_are_orders : (facts : Facts) → IsOrder (cells_of facts) (rank_at (cells_of facts)) × AreApart (cells_of facts) (rank_at (cells_of facts))
updown_orders_are_orders facts = (
  λ i less. less_than_all facts (switch_at (cells_of facts) i) (is_switch facts i less),
  λ i j i_less j_less wired e. one_index facts i j i_less j_less
      (ranked_apart facts (switch_at (cells_of facts) i) (switch_at (cells_of facts) j) (is_switch facts i i_less) (is_switch facts j j_less) e),
)
