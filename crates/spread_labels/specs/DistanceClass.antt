-- The distance classes of vertices. They are computed from the distances from the named roots or from the leaf
-- vertices.
use Rattle.std.specs.Prelude.{◌≡◌, ◌<◌, ◌≤◌, ℕ, zero, suc, List, [], ◌∷◌, map, length, Option, None, Some, ◌*◌, ◌/◌, ◌+◌, ◌^◌, unwrap_or, slice_index_or}
use Rattle.port_graph.specs.declared.edge.Edge.{Edge}
use Rattle.port_graph.specs.Heads.{heads}
use Rattle.port_graph.specs.Walks.{shortest}
use Rattle.port_graph.specs.Slopes.{lesser}
use Rattle.spread_labels.specs.declared.distance_class.DistanceSum.{DistanceSum}
use Rattle.spread_labels.specs.Orders.{numbers_from}

-- the least number of edges from vertex `a` to vertex `b`; None if no walk leads there
abbrev pub distance : List (List Edge) → ℕ → ℕ → Option ℕ
distance edges a b = shortest (heads edges) (length edges) a b

-- the distance summary of no vertices
abbrev pub no_distances : DistanceSum
no_distances = record { near = None; sum = 0; count = 0 }

-- the distance summary `t`, with a distance counted in its least distance, its sum and its count; `t` itself if the
-- distance is None
abbrev pub with_distance : DistanceSum → Option ℕ → DistanceSum
with_distance t None = t
with_distance t (Some d) = record { near = Some (lesser d t.near); sum = t.sum + d; count = t.count + 1 }

-- the distance summary `t`, with the distance of vertex `s` from each vertex of a list added
abbrev pub with_distances : List (List Edge) → ℕ → DistanceSum → List ℕ → DistanceSum
with_distances edges s t [] = t
with_distances edges s t (a ∷ some) = with_distances edges s (with_distance t (distance edges a s)) some

-- the distance summary of vertex `s` from the vertices `some`: the least, the sum and the number of the distances.
-- Vertices of `some` from which no walk leads to `s` do not count
abbrev pub distance_sum : List (List Edge) → List ℕ → ℕ → DistanceSum
distance_sum edges some s = with_distances edges s no_distances some

-- four times the mean of `count` numbers whose sum is `sum`, rounded down; 0 if `count` is 0
abbrev pub quarters_of : ℕ → ℕ → ℕ
quarters_of sum zero = 0
quarters_of sum (suc count) = 4 * sum / suc count

-- the distance class of a vertex that has the distance summaries `roots` and `leaves`. It is the distance from the
-- nearest root, if there is one. Otherwise it is four times the mean distance from the leaf vertices, rounded down; 0
-- if there is no such distance
abbrev pub distance_class_by : DistanceSum → DistanceSum → ℕ
distance_class_by roots leaves = unwrap_or roots.near (quarters_of leaves.sum leaves.count)

-- the distance class of vertex `s`, if `roots` and `leaves` have the distance summaries of all vertices; 0 past the end
-- of `roots` and `leaves`
abbrev pub distance_class_at : List DistanceSum → List DistanceSum → ℕ → ℕ
distance_class_at roots leaves s =
    distance_class_by (slice_index_or roots s no_distances) (slice_index_or leaves s no_distances)

-- the distance class of vertex `s`, given the leaf vertices `leaves` and the roots `roots`
abbrev pub distance_class_of : List (List Edge) → List ℕ → List ℕ → ℕ → ℕ
distance_class_of edges leaves roots s = distance_class_by (distance_sum edges roots s) (distance_sum edges leaves s)

-- the distance class of each vertex, given the leaf vertices `leaves` and the roots `roots`
abbrev pub distance_classes_of : List (List Edge) → List ℕ → List ℕ → List ℕ
distance_classes_of edges leaves roots = map (distance_class_of edges leaves roots) (numbers_from 0 (length edges))

-- the sum of the distances in `t` is at most 2^64 times their number
abbrev pub IsDistanceSum : DistanceSum → Type 0
IsDistanceSum t = t.sum ≤ t.count * 2 ^ 64

-- the sum of the distances in `t` is at most 2^64 times their number, which is at most `n`
pub record IsDistanceSumOf (n : ℕ) (t : DistanceSum) : Type 0 where
  pub sum : IsDistanceSum t
  pub count : t.count ≤ n

-- a distance of less than 2^64 can be added to `t` without overflow
pub record HasRoom (t : DistanceSum) : Type 0 where
  pub sum : t.sum + 2 ^ 64 ≤ 2 ^ 128
  pub count : t.count + 1 < 2 ^ 64

-- `distance_sums` has, for each vertex, its distance summary from the vertices `some`
pub record AreDistanceSums (edges : List (List Edge)) (some : List ℕ) (distance_sums : List DistanceSum) : Type 0 where
  pub all : length distance_sums ≡ length edges
  pub each : (s : ℕ) → s < length edges → slice_index_or distance_sums s no_distances ≡ distance_sum edges some s

-- `new` has each distance summary of `old`, with the distance at its index in `distances` added if there is one
pub record AreWithDistances (old new : List DistanceSum) (distances : List (Option ℕ)) : Type 0 where
  pub all : length new ≡ length old
  pub each : (s : ℕ) → s < length old → slice_index_or new s no_distances
      ≡ with_distance (slice_index_or old s no_distances) (slice_index_or distances s None)
