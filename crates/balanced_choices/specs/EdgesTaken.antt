-- The ways of packets, given the edge that each position takes, so that this edge is found only once.
use Rattle.std.specs.Prelude.{ℕ, List, [], ◌∷◌, length, map, Option, None, slice_index, slice_index_or}
use Rattle.port_graph.specs.declared.edge.Edge.{Edge}
use Rattle.spread_labels.specs.Level.{greatest}
use Rattle.spread_labels.specs.Orders.{numbers_from}
use Rattle.balanced_choices.specs.declared.ways.Change.TheVariants.{Remove}
use Rattle.balanced_choices.specs.Ways.{candidates_at, channel_by, edge_taken, first_least, way, with_changes}

-- the edge that each position takes by its choice; None for a position that has no candidate with this number
abbrev pub edges_taken : List (List Edge) → List ℕ → List (Option Edge)
edges_taken ways choices = map (edge_taken ways choices) (numbers_from 0 (length ways))

-- the channels of the way from position `p`, given the edge that each position takes
abbrev pub way_by : List (Option Edge) → ℕ → List ℕ
way_by taken p = way (λ q. slice_index_or taken q None) (length taken) p

-- the greatest load on the way from position `p` that begins with `e`, given the edge that each position takes
abbrev pub peak_by : List (Option Edge) → List ℕ → ℕ → Edge → ℕ
peak_by taken loads p e = greatest 0 (map (λ c. slice_index loads c) (channel_by p e ∷ way_by taken e.to))

-- the number of the candidate of position `p` whose way has the least peak, given the edge that each position takes; 0
-- if `p` has no candidate. If peaks are equal, the first counts. Peaks are at most 2^64 - 1
abbrev pub lightest_by : List (List Edge) → List (Option Edge) → List ℕ → ℕ → ℕ
lightest_by ways taken loads p = first_least (map (peak_by taken loads p) (candidates_at ways p))

-- the loads without the packets that the positions of a list send, given the edge that each position takes
abbrev pub without_by : List ℕ → List (Option Edge) → List ℕ → List ℕ → List ℕ
without_by sent taken loads [] = loads
without_by sent taken loads (p ∷ ps) = without_by sent taken (with_changes (Remove (slice_index sent p)) loads (way_by taken p)) ps
