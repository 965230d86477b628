-- The order of the least trial load among those that are tried: the given order, and orders by depth.
use Rattle.std.specs.Prelude.{ℕ, Bool, min, nat_lt, List, [], ◌∷◌, ◌++◌, map, length, if◌then◌else◌}
use Rattle.port_graph.specs.declared.edge.Edge.{Edge}
use Rattle.spread_labels.specs.declared.key_order.VertexKey.{VertexKey}
use Rattle.spread_labels.specs.KeyOrder.{before_by}
use Rattle.spread_labels.specs.Orders.{numbers_from, position_of}
use Rattle.depth_orders.specs.declared.direction.Direction.{Direction}
use Rattle.depth_orders.specs.declared.direction.Direction.TheVariants.{Forwards, Backwards}
use Rattle.depth_orders.specs.DepthOrder.{order_by_depth, turned}
use Rattle.balanced_choices.specs.BalancedChoices.{are_even}
use Rattle.trial_loads.specs.Starts.{keys_by_remoteness, starts}
use Rattle.trial_loads.specs.TrialLoads.{trial_load, trial_loads}

-- the key of vertex `s`: its position in `vertices`, or the length of `vertices` if it does not have `s`
abbrev pub key_in : List ℕ → ℕ → VertexKey
key_in vertices s = record { distance_class = 0; distance = position_of vertices s }

-- the keys of `n` vertices by their positions in `vertices`
abbrev pub keys_in : List ℕ → ℕ → List VertexKey
keys_in vertices n = map (key_in vertices) (numbers_from 0 n)

-- the keys that are positions in the order by depth from `root`. Between equals, `keys` decide, in the given direction
abbrev pub keys_by_depth : List (List Edge) → List VertexKey → Direction → ℕ → List VertexKey
keys_by_depth edges keys direction root =
    keys_in (order_by_depth edges (turned direction (before_by keys)) root) (length edges)

-- the keys for the orders by depth from each of the first eight starts, or from all vertices if there are fewer
abbrev pub tried_by_depth : List (List Edge) → List VertexKey → Direction → List (List VertexKey)
tried_by_depth edges keys direction =
    map (keys_by_depth edges keys direction) (starts edges (before_by keys) (min (length edges) 8))

-- of `keys` and the others, the first that has the least load
abbrev pub least_by : (List VertexKey → ℕ) → List VertexKey → List (List VertexKey) → List VertexKey
least_by load keys [] = keys
least_by load keys (other ∷ others) = least_by load (if nat_lt (load other) (load keys) then other else keys) others

-- whether the trial loads of the order that grows by `keys` are even
abbrev pub is_even : List (List Edge) → List ℕ → List VertexKey → Bool
is_even edges adapters keys = are_even edges (trial_loads edges adapters keys)

-- `keys` if their trial loads are even. Otherwise, of `keys`, the keys by depth forwards and the keys by depth
-- backwards, the first that have the least trial load
unfoldable pub least_loaded_among : List (List Edge) → List ℕ → List VertexKey → List VertexKey
least_loaded_among edges adapters keys =
    if is_even edges adapters keys then keys
    else least_by (trial_load edges adapters) keys
    (tried_by_depth edges keys Forwards ++ tried_by_depth edges keys Backwards)

-- the keys of the least trial load: those by remoteness, or keys by depth (`least_loaded_among`)
abbrev pub least_loaded_keys : List (List Edge) → List ℕ → List VertexKey
least_loaded_keys edges adapters = least_loaded_among edges adapters (keys_by_remoteness edges adapters)
