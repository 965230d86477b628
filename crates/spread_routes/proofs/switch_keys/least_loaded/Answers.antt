use Rattle.std.proofs.Common.{◌≡◌, sym, ◌∙◌, subst, List}
use Rattle.std.specs.Prelude.{IfOk}
use Rattle.port_graph.specs.declared.edge.Edge.{Edge}
use Rattle.spread_labels.specs.LabelLaws.{IsSymmetric}
use Rattle.spread_labels.specs.Leaves.{leaf_vertices}
use Rattle.spread_labels.specs.Level.{levels_of}
use Rattle.spread_routes.specs.Rule.{by_index}
use Rattle.trial_loads.specs.LeastLoaded.{least_loaded_keys}
use Rattle.spread_routes.proofs.Indices.{there_and_back}
use Rattle.spread_routes.proofs.Positions.{edges_are}
use Rattle.spread_routes.proofs.switch_keys.least_loaded.Goals as goal

pub least_loaded_keys-requires-clause-symmetric : goal.least_loaded_keys-requires-clause-symmetric
least_loaded_keys-requires-clause-symmetric c =
    let graph = c.args.given.now.graph.now in
    let good = c.adjacency-edges.ensures.is_graph in
    subst IsSymmetric (sym (edges_are graph good c.adjacency-edges.result.now c.adjacency-edges.ensures.edges)) (there_and_back graph good)

pub returns-clause-keys : goal.returns-clause-keys
returns-clause-keys c =
    let graph = c.args.given.now.graph.now in
    let by : c.adjacency-edges.result.now ≡ by_index graph =
    edges_are graph c.adjacency-edges.ensures.is_graph c.adjacency-edges.result.now c.adjacency-edges.ensures.edges in
    c.in_ok-keys.ensures ∙ (λ i. least_loaded_keys (by i) c.args.given.now.adapters.now)

pub returns-clause-levels : goal.returns-clause-levels
returns-clause-levels c =
    let graph = c.args.given.now.graph.now in
    let adapters = c.args.given.now.adapters.now in
    let edges = c.adjacency-edges.result.now in
    let ex : edges ≡ by_index graph = edges_are graph c.adjacency-edges.ensures.is_graph edges c.adjacency-edges.ensures.edges in
    let b : c.deref.result.now ≡ leaf_vertices adapters = c.deref.ensures.value ∙ c.in_ok-leaves.ensures.vertices in
    c.in_ok-levels.ensures.levels ∙ (λ i. levels_of (ex i) (b i))
