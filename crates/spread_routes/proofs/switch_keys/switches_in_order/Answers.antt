use Rattle.std.proofs.Common.{◌≡◌, ◌<◌, ℕ, List, All, ap, sym, ◌∙◌, subst, length, map}
use Rattle.std.specs.Prelude.{IfOk}
use Rattle.spread_labels.specs.LabelLaws.{IsSymmetric}
use Rattle.spread_labels.specs.KeyOrder.{before_by}
use Rattle.spread_labels.specs.Orders.{at_position, order}
use Rattle.spread_routes.specs.Rule.{by_index, order_by_keys}
use Rattle.spread_routes.specs.Spread.{keys_by, switches_in_order}
use Rattle.spread_routes.specs.SwitchOrder.{order_value_of}
use Rattle.spread_routes.proofs.Indices.{there_and_back}
use Rattle.spread_routes.proofs.KeyLists.{all_keyed}
use Rattle.spread_routes.proofs.Positions.{are_indices, edges_are, named}
use Rattle.spread_routes.proofs.switch_keys.switches_in_order.Goals as goal

pub grown_order-requires-clause-keys : goal.grown_order-requires-clause-keys
grown_order-requires-clause-keys c =
    ap length (c.deref.ensures.value ∙ c.in_ok-keys.ensures.keys)
    ∙ all_keyed c.args.given.now.graph.now c.args.given.now.adapters.now (order_value_of c.args.order.now) ∙ sym c.adjacency.ensures.edges.as_many

pub grown_order-requires-clause-symmetric : goal.grown_order-requires-clause-symmetric
grown_order-requires-clause-symmetric c =
    let graph = c.args.given.now.graph.now in
    let good = c.adjacency.ensures.is_graph in
    subst IsSymmetric (sym (edges_are graph good c.adjacency.result.now c.adjacency.ensures.edges)) (there_and_back graph good)

pub switches_at-requires : goal.switches_at-requires
switches_at-requires c =
    let graph = c.args.given.now.graph.now in
    let good = c.adjacency.ensures.is_graph in
    let keys = keys_by graph c.args.given.now.adapters.now (order_value_of c.args.order.now) in
    let by : c.adjacency.result.now ≡ by_index graph = edges_are graph good c.adjacency.result.now c.adjacency.ensures.edges in
    let is : c.deref-2.result.now ≡ order_by_keys graph keys =
    c.deref-2.ensures.value ∙ c.in_ok-vertices.ensures ∙ (λ i. order (by i) (before_by ((c.deref.ensures.value ∙ c.in_ok-keys.ensures.keys) i))) in
    subst (λ (x : List ℕ × ℕ). All (λ j. j < x.1) x.0) (λ i. (sym is i, sym (ap length c.switches.ensures ∙ named graph) i)) (are_indices graph keys good)

pub returns : goal.returns
unfolding switches_in_order
returns c =
    let graph = c.args.given.now.graph.now in
    let good = c.adjacency.ensures.is_graph in
    let keys = keys_by graph c.args.given.now.adapters.now (order_value_of c.args.order.now) in
    let by : c.adjacency.result.now ≡ by_index graph = edges_are graph good c.adjacency.result.now c.adjacency.ensures.edges in
    let is : c.deref-2.result.now ≡ order_by_keys graph keys =
    c.deref-2.ensures.value ∙ c.in_ok-vertices.ensures ∙ (λ i. order (by i) (before_by ((c.deref.ensures.value ∙ c.in_ok-keys.ensures.keys) i))) in
    subst (λ (xs : List ℕ). IfOk c.switches_at.result (λ found. found.items ≡ xs))
    (λ i. map (at_position (c.switches.ensures i)) (is i)) c.switches_at.ensures
