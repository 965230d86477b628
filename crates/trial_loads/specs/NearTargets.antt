-- Which of up to 64 targets are near to vertices, and what these targets add to how remote the vertices are. A set of
-- targets is a number with a bit for each target.
use Rattle.std.specs.Prelude.{◌≡◌, ◌<◌, ℕ, Bool, not, ◌&&◌, ◌||◌, ◌==◌, ◌+◌, List, length, Some, is_some, map, slice_index, if◌then◌else◌}
use Rattle.std.specs.List.{list_any, sum_by}
use Rattle.std.specs.Int.{bit_at}
use Rattle.port_graph.specs.declared.edge.Edge.{Edge}
use Rattle.port_graph.specs.Heads.{edges_at, heads}
use Rattle.port_graph.specs.Walks.{shortest}
use Rattle.spread_labels.specs.Orders.{numbers_from}
use Rattle.trial_loads.specs.Starts.{capped, remote_share}

-- whether a set has target `k`
abbrev pub has_target : ℕ → ℕ → Bool
has_target set k = bit_at set k == 1

-- whether a walk of fewer than `bound` edges leads from vertex `s` to vertex `t`
abbrev pub is_near : List (List Edge) → ℕ → ℕ → ℕ → Bool
is_near edges bound s t = is_some (shortest (heads edges) bound s t)

-- `near` has, for each vertex, the indices of the `targets` to which a walk of fewer than `bound` edges leads
pub record AreNear (edges : List (List Edge)) (targets : List ℕ) (bound : ℕ) (near : List ℕ) : Type 0 where
  pub all : length near ≡ length edges
  pub each : (k s : ℕ) → k < length targets → s < length edges
      → has_target (slice_index near s) k ≡ is_near edges bound s (slice_index targets k)

-- `near` has a set for each of `count` vertices. Among the indices less than `n`, the set has those at which `targets`
-- has the vertex
pub record AreThere (count : ℕ) (targets : List ℕ) (n : ℕ) (near : List ℕ) : Type 0 where
  pub all : length near ≡ count
  pub each : (k s : ℕ) → k < n → s < count → has_target (slice_index near s) k ≡ (s == slice_index targets k)

-- whether any of the edges `es` leads to a vertex whose set in `near` has target `k`
abbrev pub is_near_any : List ℕ → List Edge → ℕ → Bool
is_near_any near es k = list_any (λ e. has_target (slice_index near e.to) k) es

-- `next` has, for each of the first `count` vertices, the targets that `near` has for the vertex or for a vertex to
-- which one of its edges leads
pub record AreFurther (edges : List (List Edge)) (near : List ℕ) (count : ℕ) (next : List ℕ) : Type 0 where
  pub all : length next ≡ count
  pub each : (k s : ℕ) → s < count
      → has_target (slice_index next s) k ≡ (has_target (slice_index near s) k || is_near_any near (edges_at edges s) k)

-- what vertex `t` adds to how remote vertex `s` is, if a walk of fewer than `bound` edges leads from `s` to `t`;
-- otherwise 0
abbrev pub share_within : List (List Edge) → List ℕ → ℕ → ℕ → ℕ → ℕ
share_within edges adapters bound s t = remote_share (slice_index adapters t) (shortest (heads edges) bound s t)

-- for each vertex, `new` has the number of `old`, with what those of `targets` add to which walks of fewer than `bound`
-- edges lead. Numbers are capped at 2^64 - 1
abbrev pub AreWithShares : List (List Edge) → List ℕ → List ℕ → ℕ → List ℕ → List ℕ → Type 0
AreWithShares edges adapters targets bound old new = (s : ℕ) → s < length edges
    → slice_index new s ≡ capped (slice_index old s + sum_by (share_within edges adapters bound s) targets)

-- the sum of the shares of the targets in a set; `shares` has the share of each target
abbrev pub shares_in : List ℕ → ℕ → ℕ
shares_in shares set =
    sum_by (λ k. if has_target set k then slice_index shares k else 0) (numbers_from 0 (length shares))

-- the sum of the shares of the targets in the set `next` that are not in `near`
abbrev pub new_shares : List ℕ → ℕ → ℕ → ℕ
new_shares shares near next =
    sum_by (λ k. if has_target next k && not (has_target near k) then slice_index shares k else 0)
    (numbers_from 0 (length shares))

-- the share of each of `targets` at a distance
abbrev pub shares_at : List ℕ → List ℕ → ℕ → List ℕ
shares_at adapters targets distance = map (λ t. remote_share (slice_index adapters t) (Some distance)) targets
