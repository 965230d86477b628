-- By whether the tables are right by the order that grows by the told one.
use Rattle.std.proofs.Common.{◌≡◌, ◌∙◌, ℕ, List, true, false, cond, ap, length, subst, sym}
use Rattle.std.specs.Prelude.{IfOk}
use Rattle.fact_store.specs.View.{cells_of}
use Rattle.port_graph.specs.declared.edge.Edge.{Edge}
use Rattle.port_graph.specs.Heads.{LeadToVertices}
use Rattle.spread_labels.specs.LabelLaws.{IsSymmetric}
use Rattle.next_tables.specs.SwitchPositions.{position_at}
use Rattle.next_tables.specs.Rightness.{are_right}
use Rattle.two_orders.specs.Growth.{grown_by, positions_in}
use Rattle.two_orders.specs.Trees.{tree}
use Rattle.two_orders.specs.TwoOrders.{TwoOrders, two_orders}
use Rattle.two_orders.proofs.TreeEdges.{tree_leads, tree_long, tree_symmetric}
use Rattle.held_order.specs.Orders.{orders_from}
use Rattle.held_order.proofs.orders.orders_from.Goals as goal

pub grown_by-requires-then-branch-clause-positions : goal.grown_by-requires-then-branch-clause-positions
grown_by-requires-then-branch-clause-positions c =
    c.requires.plan ∙ sym (ap (λ (es : List (List Edge)). length es) c.in_ok-tree.ensures ∙ tree_long c.args.edges.now c.deref-then-branch.result.now)

pub grown_by-requires-then-branch-clause-lead : goal.grown_by-requires-then-branch-clause-lead
grown_by-requires-then-branch-clause-lead c =
    subst LeadToVertices (sym c.in_ok-tree.ensures) (tree_leads c.args.edges.now c.deref-then-branch.result.now c.requires.lead)

pub grown_by-requires-then-branch-clause-symmetric : goal.grown_by-requires-then-branch-clause-symmetric
grown_by-requires-then-branch-clause-symmetric c =
    subst IsSymmetric (sym c.in_ok-tree.ensures) (tree_symmetric c.args.edges.now c.deref-then-branch.result.now c.requires.symmetric)

pub returns-in_ok-rising : goal.returns-in_ok-rising
returns-in_ok-rising c =
    let cells = cells_of c.args.held.now.facts in
    let held = c.args.held.now.held in
    let edges = c.args.edges.now in
    let plan = c.args.plan.now in
    let told = c.args.told.items in
    let n = length edges in
    let grown : c.deref-2.result.now ≡ grown_by edges told = c.deref-2.ensures.value ∙ c.in_ok-grown.ensures ∙ ap (grown_by edges) c.deref.ensures.value in
    let first : c.in_ok-first.first.items ≡ positions_in (grown_by edges told) n =
    c.in_ok-first.ensures ∙ (λ i. positions_in (grown i) (c.len.ensures i)) in
    let test : are_right cells (position_at (positions_in (grown_by edges told) n)) held ≡ true =
    sym (ap (λ (xs : List ℕ). are_right cells (position_at xs) held) (c.deref-3.ensures.value ∙ first))
    ∙ sym c.in_ok-are_right.ensures ∙ c.if-branch.true in
    let rising : c.in_ok-rising.rising.items ≡ grown_by (tree edges (positions_in (grown_by edges told) n)) plan =
    c.in_ok-rising.ensures
    ∙ ap (λ (es : List (List Edge)). grown_by es plan) (c.in_ok-tree.ensures ∙ ap (tree edges) (c.deref-then-branch.ensures.value ∙ first)) in
    let made : two_orders c.in_ok-first.first.items c.in_ok-rising.rising.items c.len-then-branch.result ≡ orders_from cells held edges plan told =
    (λ i. two_orders (first i) (rising i) (c.len-then-branch.ensures i))
    ∙ ap (λ b. cond b (two_orders (positions_in (grown_by edges told) n) (grown_by (tree edges (positions_in (grown_by edges told) n)) plan) n)
    (two_orders told (grown_by edges told) n)) (sym test) in
    subst (λ (o : TwoOrders). IfOk c.of.result (λ orders. orders ≡ o)) made c.of.ensures

pub returns-else-branch : goal.returns-else-branch
returns-else-branch c =
    let cells = cells_of c.args.held.now.facts in
    let held = c.args.held.now.held in
    let edges = c.args.edges.now in
    let plan = c.args.plan.now in
    let told = c.args.told.items in
    let n = length edges in
    let grown : c.in_ok-grown.grown.items ≡ grown_by edges told = c.in_ok-grown.ensures ∙ ap (grown_by edges) c.deref.ensures.value in
    let first : c.in_ok-first.first.items ≡ positions_in (grown_by edges told) n =
    c.in_ok-first.ensures ∙ (λ i. positions_in ((c.deref-2.ensures.value ∙ grown) i) (c.len.ensures i)) in
    let test : are_right cells (position_at (positions_in (grown_by edges told) n)) held ≡ false =
    sym (ap (λ (xs : List ℕ). are_right cells (position_at xs) held) (c.deref-3.ensures.value ∙ first))
    ∙ sym c.in_ok-are_right.ensures ∙ c.if-branch.false in
    let made : two_orders told c.in_ok-grown.grown.items c.len-else-branch.result ≡ orders_from cells held edges plan told =
    (λ i. two_orders told (grown i) (c.len-else-branch.ensures i))
    ∙ ap (λ b. cond b (two_orders (positions_in (grown_by edges told) n) (grown_by (tree edges (positions_in (grown_by edges told) n)) plan) n)
    (two_orders told (grown_by edges told) n)) (sym test) in
    subst (λ (o : TwoOrders). IfOk c.of-else-branch.result (λ orders. orders ≡ o)) made c.of-else-branch.ensures
