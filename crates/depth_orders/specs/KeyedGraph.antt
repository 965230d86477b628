-- A graph with a key for each vertex.
use Rattle.std.specs.Prelude.{ℕ, Bool}
use Rattle.spread_labels.specs.KeyOrder.{before_by}
use Rattle.depth_orders.specs.declared.keyed_graph.KeyedGraph.{KeyedGraph}
use Rattle.depth_orders.specs.DepthOrder.{turned}

-- whether the first vertex is preferred to the second, by their keys in `g`
abbrev pub preferred : KeyedGraph → ℕ → ℕ → Bool
preferred g = turned g.direction (before_by g.keys.now)
