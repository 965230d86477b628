use Rattle.std.proofs.Common.{◌≡◌, ◌<◌, ℕ, List, sym, ap, ◌∙◌, subst, length, map}
use Rattle.std.specs.Prelude.{All, IfOk, Some, slice_index}
use Rattle.port_graph.proofs.Counts.{length_map}
use Rattle.spread_labels.specs.KeyOrder.{before_by}
use Rattle.spread_labels.specs.LabelLaws.{IsSymmetric}
use Rattle.spread_labels.specs.Leaves.{leaf_vertices}
use Rattle.spread_labels.specs.Level.{levels_of}
use Rattle.spread_labels.specs.Orders.{order}
use Rattle.spread_routes.specs.Rule.{by_index, by_positions, order_by_keys}
use Rattle.spread_routes.proofs.Indices.{there_and_back}
use Rattle.spread_routes.proofs.Names.{all_positioned}
use Rattle.spread_routes.proofs.Positions.{are_indices, edges_are}
use Rattle.spread_routes.specs.Spread.{Grading, adapters_there, digits_there, grading_of, keys_by, leaf_numbers_there}
use Rattle.spread_routes.specs.AdapterChoices.{adapter_choices}
use Rattle.spread_routes.specs.SwitchOrder.{order_value_of}
use Rattle.spread_routes.proofs.KeyLists.{all_keyed, all_levelled, all_numbered}
use Rattle.spread_routes.proofs.Balanced.{choices_if}
use Rattle.spread_routes.proofs.spread.Spread.of.Goals as goal

pub by_keys-requires-clause-keys : goal.by_keys-requires-clause-keys
by_keys-requires-clause-keys c =
    ap length c.in_ok-keys.ensures.keys ∙ all_keyed c.args.given.now.graph.now c.args.given.now.adapters.now (order_value_of c.args.order.now)

pub by_keys-requires-clause-levels : goal.by_keys-requires-clause-levels
by_keys-requires-clause-levels c = ap length c.in_ok-keys.ensures.levels ∙ all_levelled c.args.given.now.graph.now c.args.given.now.adapters.now

pub grown_order-requires-clause-keys : goal.grown_order-requires-clause-keys
grown_order-requires-clause-keys c =
    ap length (c.deref.ensures.value ∙ c.in_ok-keys.ensures.keys)
    ∙ all_keyed c.args.given.now.graph.now c.args.given.now.adapters.now (order_value_of c.args.order.now) ∙ sym c.adjacency.ensures.edges.as_many

pub grown_order-requires-clause-symmetric : goal.grown_order-requires-clause-symmetric
grown_order-requires-clause-symmetric c =
    let graph = c.args.given.now.graph.now in
    let good = c.adjacency.ensures.is_graph in
    subst IsSymmetric (sym (edges_are graph good c.adjacency.result.now c.adjacency.ensures.edges)) (there_and_back graph good)

pub by_keys-requires-clause-vertices : goal.by_keys-requires-clause-vertices
by_keys-requires-clause-vertices c =
    let graph = c.args.given.now.graph.now in
    let good = c.adjacency.ensures.is_graph in
    let by : c.adjacency.result.now ≡ by_index graph = edges_are graph good c.adjacency.result.now c.adjacency.ensures.edges in
    c.deref-2.ensures.value ∙ c.in_ok-vertices.ensures ∙ (λ i. order (by i) (before_by (c.deref.ensures.value i)))

pub counts_at-requires : goal.counts_at-requires
counts_at-requires c =
    let graph = c.args.given.now.graph.now in
    let good = c.adjacency.ensures.is_graph in
    let keys = c.in_ok-keys.field-0.keys.items in
    let by : c.adjacency.result.now ≡ by_index graph = edges_are graph good c.adjacency.result.now c.adjacency.ensures.edges in
    let is : c.deref-then-is_balanced-2.result.now ≡ order_by_keys graph keys =
    c.deref-then-is_balanced-2.ensures.value ∙ c.in_ok-vertices.ensures ∙ (λ i. order (by i) (before_by (c.deref.ensures.value i))) in
    let long : length c.deref-then-is_balanced.result.now ≡ length graph =
    ap length (c.deref-then-is_balanced.ensures.value ∙ c.in_ok-leaf_numbers.ensures) ∙ all_numbered graph c.args.given.now.adapters.now in
    subst (λ (x : List ℕ × ℕ). All (λ i. i < x.1) x.0) (λ i. (sym is i, sym long i)) (are_indices graph keys good)

pub counts_at-requires-then-is_balanced : goal.counts_at-requires-then-is_balanced
counts_at-requires-then-is_balanced c =
    let graph = c.args.given.now.graph.now in
    let good = c.adjacency.ensures.is_graph in
    let keys = c.in_ok-keys.field-0.keys.items in
    let by : c.adjacency.result.now ≡ by_index graph = edges_are graph good c.adjacency.result.now c.adjacency.ensures.edges in
    let is : c.deref-then-is_balanced-3.result.now ≡ order_by_keys graph keys =
    c.deref-then-is_balanced-3.ensures.value ∙ c.in_ok-vertices.ensures ∙ (λ i. order (by i) (before_by (c.deref.ensures.value i))) in
    subst (λ (x : List ℕ × ℕ). All (λ i. i < x.1) x.0) (λ i. (sym is i, sym c.args.given.now.have_adapters i)) (are_indices graph keys good)

-- a count for each position
pub balanced-requires-clause-leaf_numbers : goal.balanced-requires-clause-leaf_numbers
balanced-requires-clause-leaf_numbers c =
    let graph = c.args.given.now.graph.now in
    let good = c.adjacency.ensures.is_graph in
    let keys = c.in_ok-keys.field-0.keys.items in
    let by : c.adjacency.result.now ≡ by_index graph = edges_are graph good c.adjacency.result.now c.adjacency.ensures.edges in
    let is : c.deref-then-is_balanced-2.result.now ≡ order_by_keys graph keys =
    c.deref-then-is_balanced-2.ensures.value ∙ c.in_ok-vertices.ensures ∙ (λ i. order (by i) (before_by (c.deref.ensures.value i))) in
    ap length (c.in_ok-leaf_numbers-2.ensures)
    ∙ length_map (slice_index c.deref-then-is_balanced.result.now) c.deref-then-is_balanced-2.result.now
    ∙ ap length is ∙ sym (all_positioned graph keys good) ∙ ap (λ (g : Grading). length (by_positions g.graph g.keys)) (sym c.in_ok-spread.ensures)

pub balanced-requires-clause-adapters : goal.balanced-requires-clause-adapters
balanced-requires-clause-adapters c =
    let graph = c.args.given.now.graph.now in
    let good = c.adjacency.ensures.is_graph in
    let keys = c.in_ok-keys.field-0.keys.items in
    let by : c.adjacency.result.now ≡ by_index graph = edges_are graph good c.adjacency.result.now c.adjacency.ensures.edges in
    let is : c.deref-then-is_balanced-3.result.now ≡ order_by_keys graph keys =
    c.deref-then-is_balanced-3.ensures.value ∙ c.in_ok-vertices.ensures ∙ (λ i. order (by i) (before_by (c.deref.ensures.value i))) in
    ap length c.in_ok-adapters.ensures ∙ length_map (slice_index c.args.given.now.adapters.now) c.deref-then-is_balanced-3.result.now
    ∙ ap length is ∙ sym (all_positioned graph keys good) ∙ ap (λ (g : Grading). length (by_positions g.graph g.keys)) (sym c.in_ok-spread.ensures)

pub returns-then-is_balanced : goal.returns-then-is_balanced
returns-then-is_balanced c =
    let graph = c.args.given.now.graph.now in
    let good = c.adjacency.ensures.is_graph in
    let adapters = c.args.given.now.adapters.now in
    let order_value = order_value_of c.args.order.now in
    let keys = c.in_ok-keys.ensures.keys in
    let levels = c.in_ok-keys.ensures.levels in
    let now = keys_by graph adapters order_value in
    let by : c.adjacency.result.now ≡ by_index graph = edges_are graph good c.adjacency.result.now c.adjacency.ensures.edges in
    let grown : c.in_ok-vertices.vertices.items ≡ order_by_keys graph c.in_ok-keys.field-0.keys.items =
    c.in_ok-vertices.ensures ∙ (λ i. order (by i) (before_by (c.deref.ensures.value i))) in
    let numbers : c.in_ok-leaf_numbers-2.leaf_numbers.items ≡ leaf_numbers_there graph now adapters =
    c.in_ok-leaf_numbers-2.ensures
    ∙ (λ i. map (slice_index ((c.deref-then-is_balanced.ensures.value ∙ c.in_ok-leaf_numbers.ensures) i))
    ((c.deref-then-is_balanced-2.ensures.value ∙ grown ∙ ap (order_by_keys graph) keys) i)) in
    let there : c.in_ok-adapters.adapters.items ≡ adapters_there graph now adapters =
    c.in_ok-adapters.ensures
    ∙ ap (map (slice_index adapters)) (c.deref-then-is_balanced-3.ensures.value ∙ grown ∙ ap (order_by_keys graph) keys) in
    let balanced : Grading → Grading = λ g. record {
      graph = g.graph;
      keys = g.keys;
      levels = g.levels;
      choices = Some (adapter_choices (by_positions g.graph g.keys) (digits_there g.graph g.keys g.levels) c.in_ok-leaf_numbers-2.leaf_numbers.items
          c.in_ok-adapters.adapters.items);
    } in
    let all : balanced c.in_ok-spread.spread ≡ grading_of graph adapters order_value =
    ap balanced c.in_ok-spread.ensures
    ∙ (λ i. record {
      graph = graph;
      keys = keys i;
      levels = levels i;
      choices = ((λ j. Some (adapter_choices (by_positions graph (keys j)) (digits_there graph (keys j) (levels j)) (numbers j) (there j)))
          ∙ choices_if graph now (levels_of (by_index graph) (leaf_vertices adapters)) adapters order_value
          (sym c.is_balanced.ensures ∙ c.if-is_balanced.true)) i;
    }) in
    subst (λ (g : Grading). IfOk c.balanced.result (λ s. s ≡ g)) all c.balanced.ensures
