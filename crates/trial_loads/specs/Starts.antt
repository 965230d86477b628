-- Where orders by depth begin: keys by how remote vertices are, and starts that are far from each other.
use Rattle.std.specs.Prelude.{ℕ, zero, suc, Bool, true, false, not, ◌&&◌, ◌||◌, nat_lt, ◌+◌, ◌-◌, ◌*◌, ◌^◌, min, List, [], map, length}
use Rattle.std.specs.Prelude.{Option, None, Some, slice_index, slice_index_or}
use Rattle.std.specs.List.{fold}
use Rattle.port_graph.specs.declared.edge.Edge.{Edge}
use Rattle.spread_labels.specs.declared.key_order.VertexKey.{VertexKey}
use Rattle.spread_labels.specs.DistanceClass.{distance}
use Rattle.spread_labels.specs.Growth.{earliest_of}
use Rattle.spread_labels.specs.GrowthKeys.{distances_from, keys_of}
use Rattle.spread_labels.specs.Orders.{numbers_from}
use Rattle.depth_orders.specs.DepthOrder.{with_next}

-- remote vertices ------------------------------------------------------------------------------

-- `n`, but at most 2^64 - 1
abbrev pub capped : ℕ → ℕ
capped n = min n (2 ^ 64 - 1)

-- what a vertex with `adapters` adapters adds to how remote another vertex is, given the distance between the two: the
-- square of the distance, times one more than `adapters`; 0 if there is no distance
abbrev pub remote_share : ℕ → Option ℕ → ℕ
remote_share adapters None = 0
remote_share adapters (Some d) = capped (capped (d * d) * (adapters + 1))

-- how remote a vertex is that has these distances to all vertices: the sum of their shares, capped at 2^64 - 1
abbrev pub remoteness : List ℕ → List (Option ℕ) → ℕ
remoteness adapters distances =
    fold (λ sum t. capped (sum + remote_share (slice_index adapters t) (slice_index_or distances t None))) 0
    (numbers_from 0 (length distances))

-- how remote each vertex is; `adapters` has the number of adapters at each
abbrev pub all_remoteness : List (List Edge) → List ℕ → List ℕ
all_remoteness edges adapters =
    map (λ s. remoteness adapters (distances_from edges s)) (numbers_from 0 (length edges))

-- the keys of vertices by how remote they are, and then by the distance from the least remote vertex of their component
abbrev pub keys_by_remoteness : List (List Edge) → List ℕ → List VertexKey
keys_by_remoteness edges adapters = keys_of edges (all_remoteness edges adapters)

-- starts -----------------------------------------------------------------------------------------

-- the lesser of two distances; the other one if one of them is None
abbrev pub nearer : Option ℕ → Option ℕ → Option ℕ
nearer None other = other
nearer (Some d) None = Some d
nearer (Some d) (Some e) = Some (min d e)

-- the first distance is greater than the second; None is greater than all others
abbrev pub is_farther : Option ℕ → Option ℕ → Bool
is_farther None None = false
is_farther None (Some d) = true
is_farther (Some d) None = false
is_farther (Some d) (Some e) = nat_lt e d

-- the distance of vertex `s` from the nearest of `starts`; None if no walk leads to it from any
abbrev pub near_start : List (List Edge) → List ℕ → ℕ → Option ℕ
near_start edges starts s = fold (λ near t. nearer near (distance edges t s)) None starts

-- the distance of each vertex from the nearest of `starts`
abbrev pub near_starts : List (List Edge) → List ℕ → List (Option ℕ)
near_starts edges starts = map (near_start edges starts) (numbers_from 0 (length edges))

-- vertex `a` starts before vertex `b`, given the distances from the nearest start: it is farther, or both are equally
-- far and `before` puts `a` first
abbrev pub starts_before : List (Option ℕ) → (ℕ → ℕ → Bool) → ℕ → ℕ → Bool
starts_before near before a b = is_farther (slice_index_or near a None) (slice_index_or near b None)
    || (not (is_farther (slice_index_or near b None) (slice_index_or near a None)) && before a b)

-- the start after `starts`: of the vertices that are farthest from them, the first by `before`; None if there is no
-- vertex
abbrev pub next_start : List (List Edge) → (ℕ → ℕ → Bool) → List ℕ → Option ℕ
next_start edges before starts =
    earliest_of (starts_before (near_starts edges starts) before) (numbers_from 0 (length edges))

-- the first starts, as many as the given number: the first is the first vertex by `before`, and each later one is the
-- next after those before it
abbrev pub starts : List (List Edge) → (ℕ → ℕ → Bool) → ℕ → List ℕ
starts edges before zero = []
starts edges before (suc n) = with_next (starts edges before n) (next_start edges before (starts edges before n))
