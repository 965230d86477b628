-- The order of a rule that spreads grows.
use Rattle.std.proofs.Common.{◌≡◌, ◌∙◌, ◌<◌, ℕ, List, length, sym, ap, arith}
use Rattle.std.proofs.lemmas.List.{ext_get_or, get_or-map, length-map}
use Rattle.std.proofs.lemmas.List.FromFn.{get_or-map-range_with_len, length-map-range_with_len}
use Rattle.fact_store.specs.View.{Facts, cells_of}
use Rattle.port_graph.specs.declared.edge.Edge.{Edge}
use Rattle.subnet_view.specs.Reading.{Cells, switches}
use Rattle.subnet_view.specs.SwitchEdges.{SwitchEdges}
use Rattle.subnet_view.specs.Graph.{graph_of, guids_of}
use Rattle.subnet_view.specs.GraphLaws.{IsSwitch}
use Rattle.subnet_view.proofs.Graphs.{graph_law}
use Rattle.subnet_view.proofs.GraphSwitches.{graph_guids}
use Rattle.lft_blocks.specs.Rule.{order_of, spread_in}
use Rattle.spread_labels.specs.KeyOrder.{before_by}
use Rattle.spread_labels.specs.Orders.{at_position, order, position_of}
use Rattle.spread_labels.specs.declared.key_order.VertexKey.{VertexKey}
use Rattle.spread_labels.proofs.Growing.{contains_at}
use Rattle.spread_routes.specs.Adapters.{adapters_of}
use Rattle.spread_routes.specs.Rule.{by_index}
use Rattle.spread_routes.specs.Spread.{keys_by}
use Rattle.spread_routes.specs.SwitchOrder.{OrderValue}
use Rattle.spread_routes.proofs.Indices.{as_many, index_of_switch, leads_below}
use Rattle.two_orders.specs.Growth.{grown_by, positions_in}
use Rattle.two_orders.proofs.Agreement.{grows_again}
use Rattle.plan_order.specs.PlanOrder.{positions_by}
use Rattle.table_laws.proofs.plan_orders.NamedPositions.{named_position}
use Rattle.table_laws.specs.Calls.{SpreadOrdersGrow}

module _ (by : OrderValue) (facts : Facts) where
  abbrev cells : Cells
  cells = cells_of facts

  abbrev graph : List SwitchEdges
  graph = graph_of (cells_of facts)

  abbrev edges : List (List Edge)
  edges = by_index (graph_of (cells_of facts))

  abbrev keys : List VertexKey
  keys = keys_by (graph_of (cells_of facts)) (adapters_of (cells_of facts)) by

  abbrev standing : List ℕ
  standing = order (by_index (graph_of (cells_of facts))) (before_by (keys_by (graph_of (cells_of facts)) (adapters_of (cells_of facts)) by))

  guids_long : length (guids_of graph) ≡ length (switches cells)
  guids_long = ap (λ (xs : List ℕ). length xs) (graph_guids cells)

  -- the positions are those in the order that grows by the keys
  positions_are : positions_by (spread_in by) cells ≡ positions_in standing (length (switches cells))
  positions_are =
      let n = length (switches cells) in
      let one : length (positions_by (spread_in by) cells) ≡ length (positions_in standing n) =
      length-map (guids_of graph) (position_of (order_of by cells)) ∙ guids_long ∙ sym (length-map-range_with_len (position_of standing) 0 n) in
      ext_get_or 0 (positions_by (spread_in by) cells) (positions_in standing n) one
      (λ i less.
      let long = length-map (guids_of graph) (position_of (order_of by cells)) in
      let below : i < length (guids_of graph) = omega (arith, less, long) in
      let g = at_position (guids_of graph) i in
      let is : IsSwitch graph g = contains_at (guids_of graph) i below in
      let index : position_of (guids_of graph) g ≡ i = index_of_switch graph (graph_law facts) i below in
      get_or-map (position_of (order_of by cells)) (guids_of graph) i 0 0 below
      ∙ named_position graph (adapters_of cells) by (graph_law facts) g is ∙ ap (position_of standing) index
      ∙ sym (get_or-map-range_with_len (position_of standing) 0 n i i 0 (omega (arith, below, guids_long)) (omega arith)))

  count_is : length edges ≡ length (switches cells)
  count_is = as_many graph (graph_law facts) ∙ guids_long

  grows : positions_in (grown_by edges (positions_by (spread_in by) cells)) (length (switches cells)) ≡ positions_by (spread_in by) cells
  grows =
      let n = length (switches cells) in
      ap (λ (ps : List ℕ). positions_in (grown_by edges ps) n) (positions_are ∙ ap (positions_in standing) (sym count_is))
      ∙ ap (λ (vertices : List ℕ). positions_in vertices n) (grows_again edges (leads_below graph (graph_law facts)) keys) ∙ sym positions_are

pub spread_orders_grow : SpreadOrdersGrow
spread_orders_grow by facts = grows by facts
