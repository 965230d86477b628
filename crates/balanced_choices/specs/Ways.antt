-- The channels that packets take, and their loads.
use Rattle.std.specs.Prelude.{ℕ, zero, suc, ◌+◌, ◌-◌, ◌*◌, ◌^◌, min, nat_lt, List}
use Rattle.std.specs.Prelude.{[], ◌∷◌, length, map, take, Option, slice_get, slice_index, slice_set, if◌then◌else◌}
use Rattle.std.specs.Option.{option_map_or}
use Rattle.port_graph.specs.declared.edge.Edge.{Edge}
use Rattle.port_graph.specs.Heads.{edges_at}
use Rattle.spread_labels.specs.Level.{greatest}
use Rattle.balanced_choices.specs.declared.ways.Change.{Change}
use Rattle.balanced_choices.specs.declared.ways.Change.TheVariants.{Add, Remove}

-- the candidates among which position `p` chooses: the first 256
abbrev pub candidates_at : List (List Edge) → ℕ → List Edge
candidates_at ways p = take 256 (edges_at ways p)

-- the candidate that position `p` takes by its choice; None if `p` has no candidate with this number
abbrev pub edge_taken : List (List Edge) → List ℕ → ℕ → Option Edge
edge_taken ways choices p = slice_get (edges_at ways p) (slice_index choices p)

-- the number of the channel by which edge `e` leaves position `p`
abbrev pub channel_by : ℕ → Edge → ℕ
channel_by p e = 256 * p + e.port

-- the channels of the way from position `p`, over at most the given number of edges. `taken` gives the edge that is
-- taken at each position
abbrev pub way : (ℕ → Option Edge) → ℕ → ℕ → List ℕ
way taken zero p = []
way taken (suc n) p = option_map_or (λ e. channel_by p e ∷ way taken n e.to) (taken p) []

-- the channels of the way from position `p`, by the choices of all positions
abbrev pub way_from : List (List Edge) → List ℕ → ℕ → List ℕ
way_from ways choices p = way (edge_taken ways choices) (length ways) p

-- `load` with packets added, but at most 2^64 - 1, or with packets removed, but at least 0
abbrev pub changed : Change → ℕ → ℕ
changed (Add packets) load = min (load + packets) (2 ^ 64 - 1)
changed (Remove packets) load = load - packets

-- the loads, with the load of each channel of a list changed
abbrev pub with_changes : Change → List ℕ → List ℕ → List ℕ
with_changes change loads [] = loads
with_changes change loads (c ∷ cs) = with_changes change (slice_set loads c (changed change (slice_index loads c))) cs

-- the greatest load on the way from position `p` that begins with candidate `e`, by the choices of all positions
abbrev pub peak : List (List Edge) → List ℕ → List ℕ → ℕ → Edge → ℕ
peak ways choices loads p e = greatest 0 (map (λ c. slice_index loads c) (channel_by p e ∷ way_from ways choices e.to))

-- the index of the least number among `least`, which is at index `best`, and the numbers of a list, which begins at
-- index `k`. If numbers are equal, the first counts
abbrev pub least_from : ℕ → ℕ → ℕ → List ℕ → ℕ
least_from best least k [] = best
least_from best least k (n ∷ ns) = if nat_lt n least then least_from k n (suc k) ns else least_from best least (suc k) ns

-- the index of the least of some numbers, if each is at most 2^64 - 1; 0 if there are no numbers. If numbers are equal,
-- the first counts
abbrev pub first_least : List ℕ → ℕ
first_least ns = least_from 0 (2 ^ 64 - 1) 0 ns

-- the number of the candidate of position `p` whose way has the least peak; 0 if `p` has no candidate. If peaks are
-- equal, the first counts. Peaks are at most 2^64 - 1
abbrev pub lightest : List (List Edge) → List ℕ → List ℕ → ℕ → ℕ
lightest ways choices loads p = first_least (map (peak ways choices loads p) (candidates_at ways p))
