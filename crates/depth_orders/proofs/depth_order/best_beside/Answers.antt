use Rattle.std.proofs.Common.{◌≡◌, ◌<◌, ℕ, List, sym, ap, ◌∙◌, subst, length, get_or}
use Rattle.std.specs.Prelude.{Some, Contains, not}
use Rattle.port_graph.specs.declared.edge.Edge.{Edge}
use Rattle.depth_orders.specs.KeyedGraph.{preferred}
use Rattle.spread_labels.specs.Growth.{earlier_of}
use Rattle.spread_labels.proofs.Earlier.{IsBelow, earlier_below}
use Rattle.depth_orders.specs.DepthOrder.{flag_at, goes_before}
use Rattle.depth_orders.proofs.Neighbors.{best_passing, best_failing}
use Rattle.depth_orders.proofs.depth_order.best_beside.Goals as goal
use Rattle.depth_orders.proofs.depth_order.best_beside.Goals.{then-not-is_placed, else-not-is_placed}

pub better-requires-clause-vertex : goal.better-requires-clause-vertex
better-requires-clause-vertex c =
    c.args.graph.now.lead c.args.vertex c.edge-item.result
    (subst (λ (xs : List Edge). Contains xs c.edge-item.result) c.at-edge-items.ensures
    (c.loop-edge.edge-index, c.loop-edge-test.true, sym c.edge-item.is))

pub loop-edge-preserved : goal.loop-edge-preserved
loop-edge-preserved c =
    let before = goes_before c.args.graph.now.edges.now (preferred c.args.graph.now) (flag_at c.args.placed.now) in
    let left = λ (b : ℕ). not (flag_at c.args.placed.now b) in
    let es = c.at-edge-items.result.now in
    let i = c.loop-edge.edge-index in
    let e = c.edge-item.result in
    let told = c.loop-edge.invariant.0 in
    let is : get_or es i e ≡ e = sym c.edge-item.is in
    elim c.if-not-is_placed.branch [
      | then-not-is_placed w ↦ (
        w.found-is ∙ ap Some (w.better.ensures ∙ ap (λ o. earlier_of before o e.to) told)
            ∙ sym (best_passing before left es i e c.loop-edge-test.true is (ap not (sym c.is_placed.ensures ∙ w.if-not-is_placed.true))),
        subst (IsBelow (length c.args.graph.now.edges.now)) (sym w.found-is)
            (subst (λ (k : ℕ). k < length c.args.graph.now.edges.now) (sym w.better.ensures)
            (earlier_below before c.loop-edge.found e.to (length c.args.graph.now.edges.now) c.loop-edge.invariant.1
            (c.args.graph.now.lead c.args.vertex e (subst (λ (xs : List Edge). Contains xs e) c.at-edge-items.ensures (i, c.loop-edge-test.true, is))))),
      )
      | else-not-is_placed w ↦ (
        w.found-is ∙ told ∙ sym (best_failing before left es i e c.loop-edge-test.true is (ap not (sym c.is_placed.ensures ∙ w.if-not-is_placed.false))),
        subst (IsBelow (length c.args.graph.now.edges.now)) (sym w.found-is) c.loop-edge.invariant.1,
      )
    ]
