-- A vertex more.
use Rattle.std.proofs.Common.{◌≡◌, ◌∙◌, ◌++◌, ◌∷◌, [], arith, sym}
use Rattle.std.proofs.lemmas.List.FromFn.{map-range_with_len_more}
use Rattle.two_orders.specs.Trees.{tree_edges}
use Rattle.two_orders.proofs.trees.tree_by.Goals as goal

pub loop-vertex-preserved : goal.loop-vertex-preserved
loop-vertex-preserved c =
    let f = tree_edges c.args.edges.now c.args.earliest.now in
    let v = c.loop-vertex.vertex in
    let row : c.deref.result.now ≡ f v = c.deref.ensures.value ∙ c.in_ok-row.ensures in
    c.in_ok-push_vertex.ensures.added ∙ (λ i. c.loop-vertex.invariant i ++ (row i ∷ []))
    ∙ sym (map-range_with_len_more f 0 v v (omega arith))
