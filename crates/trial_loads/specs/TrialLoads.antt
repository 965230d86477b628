-- The trial loads of an order. Each adapter sends packets to each adapter, and each vertex on their way shares out
-- its packets evenly among its candidates.
use Rattle.std.specs.Prelude.{◌≡◌, ◌<◌, ℕ, zero, suc, Bool, not, ◌+◌, ◌-◌, ◌*◌, ◌/◌, ◌^◌, min}
use Rattle.std.specs.Prelude.{List, [], ◌∷◌, ◌++◌, map, filter, length, replicate, slice_index, slice_set}
use Rattle.port_graph.specs.declared.edge.Edge.{Edge}
use Rattle.port_graph.specs.Heads.{edges_at}
use Rattle.spread_labels.specs.declared.target_set.TargetSet.{TargetSet}
use Rattle.spread_labels.specs.declared.key_order.VertexKey.{VertexKey}
use Rattle.spread_labels.specs.KeyOrder.{before_by}
use Rattle.spread_labels.specs.Labels.{candidates, leads_up}
use Rattle.spread_labels.specs.Leaves.{leaf_vertices}
use Rattle.spread_labels.specs.Level.{greatest}
use Rattle.spread_labels.specs.MarkSets.{picked, set_at, sets_at}
use Rattle.spread_labels.specs.Orders.{by_position, numbers_from, order}
use Rattle.spread_labels.specs.TargetSet.{EachTarget, has}
use Rattle.balanced_choices.specs.Ways.{channel_by}

-- `numbers`, with `more` added at each index of a list; each sum is capped at 2^64 - 1
abbrev pub with_more : ℕ → List ℕ → List ℕ → List ℕ
with_more more numbers [] = numbers
with_more more numbers (i ∷ is) =
    with_more more (slice_set numbers i (min (slice_index numbers i + more) (2 ^ 64 - 1))) is

-- packets on their way to a target: how many packets each vertex has had so far, its own and those that have reached
-- it; and how many each channel carries, including packets to earlier targets
pub record Packets : Type 0 where
  pub had : List ℕ
  pub carried : List ℕ

-- the share of `n` packets that each of the candidates `es` gets; the remainder of the division is dropped
abbrev pub share : ℕ → List Edge → ℕ
share n es = n / length es

-- the packets after vertex `s` has shared out, evenly among its candidates `es`, the packets that it had
abbrev pub with_shares : ℕ → List Edge → Packets → Packets
with_shares s es packets = record {
  had = with_more (share (slice_index packets.had s) es) packets.had (map (λ e. e.to) es);
  carried = with_more (share (slice_index packets.had s) es) packets.carried (map (channel_by s) es);
}

-- the packets after each vertex of a list has shared out its packets, one after another; `towards` has the candidates
-- of each vertex
abbrev pub shared : (ℕ → List Edge) → List ℕ → Packets → Packets
shared towards [] packets = packets
shared towards (s ∷ ss) packets = shared towards ss (with_shares s (towards s) packets)

-- the numbers less than `n`, in descending order
abbrev pub last_first : ℕ → List ℕ
last_first zero = []
last_first (suc n) = n ∷ last_first n

-- whether any candidate of vertex `s` leads up
abbrev pub goes_up : (ℕ → List Edge) → ℕ → Bool
goes_up towards s = leads_up s (towards s)

-- the order in which `n` vertices share. First come those with a candidate that leads up, from the last to the first,
-- and then the others, from the first to the last. If `towards` has the candidates towards a target, each vertex shares
-- once all packets have reached it
abbrev pub in_turn : (ℕ → List Edge) → ℕ → List ℕ
in_turn towards n =
    filter (goes_up towards) (last_first n) ++ filter (λ s. not (goes_up towards s)) (numbers_from 0 n)

-- the number of packets that each vertex starts with towards a target with `to` adapters: 65,536 from each adapter of
-- the vertex to each adapter of the target
abbrev pub first_had : ℕ → List ℕ → List ℕ
first_had to adapters = map (λ from. 65536 * from * to) adapters

-- the loads `carried` of channels, with the packets to one target added. Vertex `s` of `n` starts with `had[s]` packets
abbrev pub carried_to : (ℕ → List Edge) → ℕ → List ℕ → List ℕ → List ℕ
carried_to towards n had carried = (shared towards (in_turn towards n) (record { had = had; carried = carried })).carried

-- the loads of channels, with the packets to the adapters of each target of a list added
abbrev pub carried_between : List (List Edge) → List ℕ → List ℕ → List ℕ → List ℕ
carried_between graph adapters carried [] = carried
carried_between graph adapters carried (t ∷ ts) =
    carried_between graph adapters
    (carried_to (candidates graph t) (length graph) (first_had (slice_index adapters t) adapters) carried) ts

-- the load that the packets among all adapters put on each channel, in a graph numbered in a grown order
abbrev pub loads_by : List (List Edge) → List ℕ → List ℕ
loads_by graph adapters =
    carried_between graph adapters (replicate (256 * length graph) 0) (leaf_vertices adapters)

-- the load that the packets among all adapters put on each channel, in the order that grows by `keys`
unfoldable pub trial_loads : List (List Edge) → List ℕ → List VertexKey → List ℕ
trial_loads edges adapters keys =
    let vertices = order edges (before_by keys) in
    loads_by (by_position edges vertices) (map (slice_index adapters) vertices)

-- the load of the busiest channel, in the order that grows by `keys`
abbrev pub trial_load : List (List Edge) → List ℕ → List VertexKey → ℕ
trial_load edges adapters keys = greatest 0 (trial_loads edges adapters keys)

-- how candidates are found: ----------------------------------------------------------------------------

-- the candidates of vertex `s` towards target `k`, from the sets of its edges in `rows`
abbrev pub candidates_in : List (List Edge) → List (List TargetSet) → ℕ → ℕ → List Edge
candidates_in graph rows k s = picked k (sets_at rows s) (edges_at graph s)

-- for each vertex, `ups` has the targets towards which any of its candidates leads up
pub record AreUpward (graph : List (List Edge)) (rows : List (List TargetSet)) (ups : List TargetSet) : Type 0 where
  pub all : length ups ≡ length graph
  pub each : EachTarget (λ k. (s : ℕ) → s < length graph
      → has (set_at ups s) k ≡ goes_up (candidates_in graph rows k) s)
