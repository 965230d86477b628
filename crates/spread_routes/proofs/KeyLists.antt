-- Each switch has a key and a level.
use Rattle.std.proofs.Common.{◌≡◌, ℕ, List, [], ◌∙◌, length}
use Rattle.port_graph.proofs.Counts.{length_map}
use Rattle.spread_labels.specs.DistanceClass.{distance_classes_of}
use Rattle.spread_labels.specs.GrowthKeys.{key_of}
use Rattle.spread_labels.specs.Leaves.{leaf_vertices}
use Rattle.spread_labels.specs.Level.{level_of, levels_of}
use Rattle.spread_labels.proofs.Numbers.{numbers_long}
use Rattle.trial_loads.proofs.Least.{keys_long}
use Rattle.subnet_view.specs.SwitchEdges.{SwitchEdges}
use Rattle.subnet_view.specs.Graph.{guids_of}
use Rattle.spread_routes.specs.LeafNumbers.{leaf_number, leaf_numbers, least_neighbors}
use Rattle.spread_routes.specs.Rule.{by_index}
use Rattle.spread_routes.specs.Spread.{indices_of, keys_by, keys_from_roots}
use Rattle.spread_routes.specs.SwitchOrder.{OrderValue, as_named, balanced_as, from_roots, least_loaded, key_as_named}
use Rattle.spread_routes.proofs.Positions.{indexed}

pub keyed_from : (graph : List SwitchEdges) (adapters roots : List ℕ) → length (keys_from_roots graph adapters roots) ≡ length (by_index graph)
keyed_from graph adapters roots =
    let edges = by_index graph in
    numbers_long (key_of edges (distance_classes_of edges (leaf_vertices adapters) (indices_of graph roots))) 0 (length edges)

pub all_keyed : (graph : List SwitchEdges) (adapters : List ℕ) (order : OrderValue) → length (keys_by graph adapters order) ≡ length graph
all_keyed graph adapters (from_roots roots) = keyed_from graph adapters roots ∙ indexed graph
all_keyed graph adapters (as_named switches) =
    length_map (key_as_named switches) (guids_of graph) ∙ length_map (λ (c : SwitchEdges). c.guid) graph
all_keyed graph adapters (balanced_as switches) =
    length_map (key_as_named switches) (guids_of graph) ∙ length_map (λ (c : SwitchEdges). c.guid) graph
all_keyed graph adapters least_loaded =
    keys_long (by_index graph) adapters ∙ indexed graph

pub all_levelled : (graph : List SwitchEdges) (adapters : List ℕ) → length (levels_of (by_index graph) (leaf_vertices adapters)) ≡ length graph
all_levelled graph adapters = numbers_long (level_of (by_index graph) (leaf_vertices adapters)) 0 (length (by_index graph)) ∙ indexed graph

pub all_numbered : (graph : List SwitchEdges) (adapters : List ℕ) → length (leaf_numbers graph adapters) ≡ length graph
all_numbered graph adapters = numbers_long (leaf_number (least_neighbors (by_index graph)) (leaf_vertices adapters)) 0 (length graph)
