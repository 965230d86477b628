-- By the wires of the switches.
use Rattle.std.proofs.Common.{◌≡◌, ◌∙◌, List, Option, None, Some, ap, refl, subst, sym}
use Rattle.fact_store.specs.View.{cells_of}
use Rattle.port_graph.specs.declared.edge.Edge.{Edge}
use Rattle.spread_labels.specs.LabelLaws.{IsSymmetric}
use Rattle.spread_routes.specs.Rule.{by_index}
use Rattle.spread_routes.proofs.Indices.{there_and_back}
use Rattle.spread_routes.proofs.Positions.{edges_are}
use Rattle.two_orders.specs.TwoOrders.{TwoOrders}
use Rattle.held_order.specs.TablesBetween.{tables_between}
use Rattle.held_order.specs.Orders.{AreOrders, edges_in}
use Rattle.held_order.proofs.step_goal.between.Goals as goal

pub orders-requires-clause-symmetric : goal.orders-requires-clause-symmetric
orders-requires-clause-symmetric c =
    let graph = c.args.graph.now in
    let good = c.adjacency-edges.ensures.is_graph in
    subst IsSymmetric (sym (edges_are graph good c.adjacency-edges.result.now c.adjacency-edges.ensures.edges)) (there_and_back graph good)

none_of : {X : Type 0} (o : Option X) → ((x : X) → o ≡ Some x → ⊥) → o ≡ None
none_of None differs = refl
none_of (Some x) differs = absurd (differs x refl)

pub returns-in_default : goal.returns-in_default
returns-in_default c =
    let cells = cells_of c.args.held.now.facts in
    let held = c.args.held.now.held in
    let graph = c.args.graph.now in
    let edges : c.adjacency-edges.result.now ≡ edges_in cells =
    edges_are graph c.adjacency-edges.ensures.is_graph c.adjacency-edges.result.now c.adjacency-edges.ensures.edges
    ∙ ap by_index c.requires.graph in
    let are : AreOrders cells held (edges_in cells) c.args.positions.now c.args.preferred.now c.in_ok-orders.field-0 =
    subst (λ (x : List (List Edge)). AreOrders cells held x c.args.positions.now c.args.preferred.now c.in_ok-orders.field-0) edges c.in_ok-orders.ensures in
    subst (λ (o : Option TwoOrders). AreOrders cells held (edges_in cells) c.args.positions.now c.args.preferred.now o)
    (none_of c.in_ok-orders.field-0 c.in_default.not-Some) are

pub returns : goal.returns
returns c =
    let cells = cells_of c.args.held.now.facts in
    let held = c.args.held.now.held in
    let plan = c.args.plan.now.held in
    let by = c.args.positions.now in
    let preferred = c.args.preferred.now in
    let own = c.adjacency-edges.result.now in
    let orders = c.in-Some.orders in
    let edges : own ≡ edges_in cells =
    edges_are c.args.graph.now c.adjacency-edges.ensures.is_graph own c.adjacency-edges.ensures.edges
    ∙ ap by_index c.requires.graph in
    let are : AreOrders cells held (edges_in cells) by preferred (Some orders) =
    subst (λ (o : Option TwoOrders). AreOrders cells held (edges_in cells) by preferred o) c.in-Some.is
    (subst (λ (x : List (List Edge)). AreOrders cells held x by preferred c.in_ok-orders.field-0) edges c.in_ok-orders.ensures) in
    let tables : c.in_ok-tables.tables ≡ tables_between cells (edges_in cells) orders held plan =
    c.in_ok-tables.ensures ∙ ap (λ (x : List (List Edge)). tables_between cells x orders held plan) edges in
    let list : c.into_first.result.items ≡ orders.first = c.into_first.ensures in
    record {
      orders = orders;
      are = are;
      is = λ i. record { positions = list i; tables = tables i };
    }
