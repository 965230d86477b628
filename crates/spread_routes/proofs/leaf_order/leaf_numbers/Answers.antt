use Rattle.std.proofs.Common.{◌≡◌, ◌++◌, [], ◌∷◌, sym, ap, ◌∙◌, arith, length, map}
use Rattle.spread_labels.specs.Orders.{numbers_from}
use Rattle.spread_labels.proofs.Earlier.{mapped_grown}
use Rattle.spread_routes.specs.LeafNumbers.{leaf_number, least_neighbors}
use Rattle.spread_routes.specs.Rule.{by_index}
use Rattle.spread_routes.proofs.Positions.{edges_are}
use Rattle.spread_routes.proofs.leaf_order.leaf_numbers.Goals as goal

pub loop-index-preserved : goal.loop-index-preserved
loop-index-preserved c =
    let k = c.loop-index.index in
    let f = leaf_number c.in_ok-neighbors.neighbors.items c.in_ok-leaves.leaves.items in
    let number : c.leaf_number.result ≡ f k =
    c.leaf_number.ensures ∙ (λ i. leaf_number (c.deref.ensures.value i) (c.deref-in-loop-index.ensures.value i) k) in
    c.in_ok-push.ensures.items ∙ (λ i. c.loop-index.invariant i ++ number i ∷ []) ∙ sym (mapped_grown f k)

pub returns : goal.returns
returns c =
    let graph = c.args.given.now.graph.now in
    let edges = c.adjacency-edges.result.now in
    let are : edges ≡ by_index graph = edges_are graph c.adjacency-edges.ensures.is_graph edges c.adjacency-edges.ensures.edges in
    let neighbors = c.in_ok-neighbors.ensures ∙ ap least_neighbors are in
    let all : c.loop-index.index ≡ length graph = omega (arith, c.loop-index-test.false, c.loop-index.auto.index-end, c.len-index-end.ensures.count) in
    c.loop-index.invariant ∙ (λ i. map (leaf_number (neighbors i) (c.in_ok-leaves.ensures.vertices i)) (numbers_from 0 (all i)))
