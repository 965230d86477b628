use Rattle.std.proofs.Common.{◌≡◌, ap, sym, ◌∙◌, subst, length}
use Rattle.spread_labels.specs.DistanceClass.{distance_class_of, distance_classes_of}
use Rattle.spread_labels.specs.GrowthKeys.{keys_of}
use Rattle.spread_labels.specs.Leaves.{leaf_vertices}
use Rattle.spread_labels.specs.Level.{levels_of}
use Rattle.spread_labels.proofs.Numbers.{numbers_long}
use Rattle.spread_labels.specs.LabelLaws.{IsSymmetric}
use Rattle.spread_routes.specs.Rule.{by_index}
use Rattle.spread_routes.specs.Spread.{indices_of}
use Rattle.spread_routes.proofs.Indices.{there_and_back}
use Rattle.spread_routes.proofs.Positions.{edges_are}
use Rattle.spread_routes.proofs.switch_keys.from_roots.Goals as goal

pub keys-requires-clause-symmetric : goal.keys-requires-clause-symmetric
keys-requires-clause-symmetric c =
    let graph = c.args.given.now.graph.now in
    let good = c.adjacency-edges.ensures.is_graph in
    subst IsSymmetric (sym (edges_are graph good c.adjacency-edges.result.now c.adjacency-edges.ensures.edges)) (there_and_back graph good)

pub keys-requires-clause-all : goal.keys-requires-clause-all
keys-requires-clause-all c =
    let edges = c.adjacency-edges.result.now in
    ap length (c.deref-3.ensures.value ∙ c.in_ok-distance_classes.ensures.distance_classes)
    ∙ numbers_long (distance_class_of edges c.deref.result.now c.deref-2.result.now) 0 (length edges)

pub returns-clause-keys : goal.returns-clause-keys
returns-clause-keys c =
    let graph = c.args.given.now.graph.now in
    let adapters = c.args.given.now.adapters.now in
    let roots = c.args.roots.now in
    let edges = c.adjacency-edges.result.now in
    let ex : edges ≡ by_index graph = edges_are graph c.adjacency-edges.ensures.is_graph edges c.adjacency-edges.ensures.edges in
    let b : c.deref.result.now ≡ leaf_vertices adapters = c.deref.ensures.value ∙ c.in_ok-leaves.ensures.vertices in
    let r : c.deref-2.result.now ≡ indices_of graph roots = c.deref-2.ensures.value ∙ c.in_ok-roots.ensures.indices in
    let distance_classes : c.deref-3.result.now ≡ distance_classes_of edges c.deref.result.now c.deref-2.result.now =
    c.deref-3.ensures.value ∙ c.in_ok-distance_classes.ensures.distance_classes in
    c.in_ok-keys.ensures ∙ ap (keys_of edges) distance_classes ∙ (λ i. keys_of (ex i) (distance_classes_of (ex i) (b i) (r i)))

pub returns-clause-levels : goal.returns-clause-levels
returns-clause-levels c =
    let graph = c.args.given.now.graph.now in
    let adapters = c.args.given.now.adapters.now in
    let edges = c.adjacency-edges.result.now in
    let ex : edges ≡ by_index graph = edges_are graph c.adjacency-edges.ensures.is_graph edges c.adjacency-edges.ensures.edges in
    let b : c.deref.result.now ≡ leaf_vertices adapters = c.deref.ensures.value ∙ c.in_ok-leaves.ensures.vertices in
    c.in_ok-distance_classes.ensures.levels ∙ (λ i. levels_of (ex i) (b i))
