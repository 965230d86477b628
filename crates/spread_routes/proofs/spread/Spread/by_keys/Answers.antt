use Rattle.std.proofs.Common.{◌≡◌, ◌<◌, ℕ, List, sym, ap, ◌∙◌, subst, arith, length, map, All}
use Rattle.std.specs.Prelude.{Contains, None}
use Rattle.spread_labels.specs.Orders.{by_position}
use Rattle.spread_labels.specs.VertexPositions.{ArePositions, StandOnce}
use Rattle.spread_routes.specs.Rule.{by_index}
use Rattle.spread_routes.specs.Spread.{lid_digit_at}
use Rattle.spread_routes.proofs.Positions.{all_stand, are_indices, by_positions_is, edges_are, stand_once}
use Rattle.spread_routes.proofs.spread.Spread.by_keys.Goals as goal

pub lid_digits-requires-clause-edges : goal.lid_digits-requires-clause-edges
lid_digits-requires-clause-edges c =
    edges_are c.args.graph.now c.adjacency-edges.ensures.is_graph c.adjacency-edges.result.now c.adjacency-edges.ensures.edges

pub positions-requires : goal.positions-requires
positions-requires c =
    let graph = c.args.graph.now in
    let good = c.adjacency-edges.ensures.is_graph in
    let by : c.adjacency-edges.result.now ≡ by_index graph = edges_are graph good c.adjacency-edges.result.now c.adjacency-edges.ensures.edges in
    let keys = c.args.keys.items in
    let count : c.len.result ≡ length (by_index graph) = c.len.ensures ∙ ap length by in
    subst (λ (x : ℕ × List ℕ). StandOnce x.0 x.1) (λ i. (sym count i, sym c.requires.vertices i)) (stand_once graph keys good)

pub lid_digits-requires-clause-order : goal.lid_digits-requires-clause-order
lid_digits-requires-clause-order c =
    let graph = c.args.graph.now in
    let good = c.adjacency-edges.ensures.is_graph in
    let by : c.adjacency-edges.result.now ≡ by_index graph = edges_are graph good c.adjacency-edges.result.now c.adjacency-edges.ensures.edges in
    let keys = c.args.keys.items in
    subst (λ (xs : List ℕ). All (λ i. i < length graph) xs) (sym c.requires.vertices) (are_indices graph keys good)

pub by_positions-requires-clause-all : goal.by_positions-requires-clause-all
by_positions-requires-clause-all c =
    let graph = c.args.graph.now in
    let good = c.adjacency-edges.ensures.is_graph in
    let by : c.adjacency-edges.result.now ≡ by_index graph = edges_are graph good c.adjacency-edges.result.now c.adjacency-edges.ensures.edges in
    let keys = c.args.keys.items in
    λ s h. subst (λ (xs : List ℕ). Contains xs s) (sym c.requires.vertices)
    (all_stand graph keys good s (omega (arith, h, ap length by)))

pub invariant_of-result : goal.invariant_of-result
invariant_of-result c =
    let graph = c.args.graph.now in
    let good = c.adjacency-edges.ensures.is_graph in
    let by : c.adjacency-edges.result.now ≡ by_index graph = edges_are graph good c.adjacency-edges.result.now c.adjacency-edges.ensures.edges in
    let keys = c.args.keys.items in
    let levels = c.args.levels.items in
    let count : c.len.result ≡ length (by_index graph) = c.len.ensures ∙ ap length by in
    by_positions_is graph keys good levels None c.in_ok-edges.edges c.in_ok-positions.positions.items c.in_ok-lid_digits.lid_digits.items
    (c.in_ok-edges.ensures ∙ (λ i. by_position (by i) (c.requires.vertices i)))
    (subst (λ (x : ℕ × List ℕ). ArePositions x.0 x.1 c.in_ok-positions.positions.items) (λ i. (count i, c.requires.vertices i))
    c.in_ok-positions.ensures)
    (c.in_ok-lid_digits.ensures ∙ (λ i. map (lid_digit_at graph (c.deref.ensures.value i)) (c.requires.vertices i)))
