-- The keys that an order grows by: the distance class of a vertex, and its distance from the first vertex of its
-- component.
use Rattle.std.specs.Prelude.{◌≡◌, ◌<◌, ℕ, true, List, map, filter, EachIndex, length, Option, is_some, option_and_then, unwrap_or, slice_index, slice_index_or, None, Some}
use Rattle.std.specs.Option.{option_or}
use Rattle.port_graph.specs.declared.edge.Edge.{Edge}
use Rattle.spread_labels.specs.declared.key_order.VertexKey.{VertexKey}
use Rattle.spread_labels.specs.DistanceClass.{distance}
use Rattle.spread_labels.specs.KeyOrder.{before_by}
use Rattle.spread_labels.specs.Orders.{numbers_from}
use Rattle.spread_labels.specs.Growth.{earliest_of}

-- the distance from vertex `s` to each vertex; None for a vertex to which no walk leads
abbrev pub distances_from : List (List Edge) → ℕ → List (Option ℕ)
distances_from edges s = map (distance edges s) (numbers_from 0 (length edges))

-- for each of `distance_classes` a key with that distance class and distance 0
abbrev pub by_distance_class : List ℕ → List VertexKey
by_distance_class distance_classes = map (λ c. record { distance_class = c; distance = 0 }) distance_classes

-- the vertex with the earliest key in `keys` among those that have a distance in `distances`; None if no vertex has one
abbrev pub first_among : List VertexKey → List (Option ℕ) → Option ℕ
first_among keys distances =
    earliest_of (before_by keys)
    (filter (λ a. is_some (slice_index_or distances a None)) (numbers_from 0 (length keys)))

-- the distance of the vertex with the earliest key in `keys` among those that have a distance in `distances`; 0 if no
-- vertex has one
abbrev pub from_first : List VertexKey → List (Option ℕ) → ℕ
from_first keys distances =
    unwrap_or (option_and_then (λ a. slice_index_or distances a None) (first_among keys distances)) 0

-- the first vertex of the component of vertex `s`: that with the earliest key in `keys`; `s` itself if no vertex with a
-- key has a distance from `s`
abbrev pub first_at : List (List Edge) → List VertexKey → ℕ → ℕ
first_at edges keys s = unwrap_or (first_among keys (distances_from edges s)) s

-- `far` has for each vertex None, or its distance from the first vertex of its component: that with the earliest key in
-- `keys`. Each of the first `count` vertices has a distance
pub record AreFar (edges : List (List Edge)) (keys : List VertexKey) (count : ℕ) (far : List (Option ℕ)) : Type 0 where
  pub all : length far ≡ length edges
  pub right : (s d : ℕ) → s < length edges → slice_index_or far s None ≡ Some d
      → from_first keys (distances_from edges s) ≡ d
  pub known : (s : ℕ) → s < count → is_some (slice_index_or far s None) ≡ true

-- each index of `new` has the distance in `far`, if there is one, and otherwise the distance in `found`; None if
-- neither has one
abbrev pub FillsIn : List (Option ℕ) → List (Option ℕ) → List (Option ℕ) → Type 0
FillsIn far found new =
    EachIndex new (λ k. slice_index_or new k None ≡ option_or (slice_index_or far k None) (slice_index_or found k None))

-- the key of vertex `s`: its distance class, and its distance from the first vertex of its component. The first vertex
-- is the one with the least distance class, and the least such vertex if there are several
abbrev pub key_of : List (List Edge) → List ℕ → ℕ → VertexKey
key_of edges distance_classes s =
    record {
      distance_class = slice_index distance_classes s;
      distance =
          from_first (by_distance_class distance_classes) (distances_from edges s);
    }

-- the key of each vertex, from the distance classes
abbrev pub keys_of : List (List Edge) → List ℕ → List VertexKey
keys_of edges distance_classes = map (key_of edges distance_classes) (numbers_from 0 (length edges))
