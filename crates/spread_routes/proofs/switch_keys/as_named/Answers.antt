use Rattle.std.proofs.Common.{◌≡◌, ◌∙◌}
use Rattle.spread_labels.specs.Leaves.{leaf_vertices}
use Rattle.spread_labels.specs.Level.{levels_of}
use Rattle.spread_routes.specs.Rule.{by_index}
use Rattle.spread_routes.proofs.Positions.{edges_are}
use Rattle.spread_routes.proofs.switch_keys.as_named.Goals as goal

pub returns-clause-levels : goal.returns-clause-levels
returns-clause-levels c =
    let graph = c.args.given.now.graph.now in
    let adapters = c.args.given.now.adapters.now in
    let edges = c.adjacency-edges.result.now in
    let ex : edges ≡ by_index graph = edges_are graph c.adjacency-edges.ensures.is_graph edges c.adjacency-edges.ensures.edges in
    let b : c.deref.result.now ≡ leaf_vertices adapters = c.deref.ensures.value ∙ c.in_ok-leaves.ensures.vertices in
    c.in_ok-levels.ensures.levels ∙ (λ i. levels_of (ex i) (b i))
