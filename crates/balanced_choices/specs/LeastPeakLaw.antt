-- The law of new choices: the candidate that is chosen has the least peak.
use Rattle.std.specs.Prelude.{◌<◌, ◌≤◌, ◌-◌, ◌^◌, ℕ, List, All, length, map, slice_index}
use Rattle.port_graph.specs.declared.edge.Edge.{Edge}
use Rattle.balanced_choices.specs.Ways.{candidates_at, lightest, peak}

-- no number of `ns` is less than the number at index `i`, and each number before it is greater
pub record IsFirstLeast (ns : List ℕ) (i : ℕ) : Type 0 where
  pub within : i < length ns
  pub least : (k : ℕ) → k < length ns → slice_index ns i ≤ slice_index ns k
  pub first : (k : ℕ) → k < i → slice_index ns i < slice_index ns k

-- if there is a candidate and peaks are at most 2^64 - 1, `lightest` gives the first candidate that has the least peak
abbrev pub LightestIsLeast : Type 0
LightestIsLeast = (ways : List (List Edge)) (choices loads : List ℕ) (p : ℕ)
    → All (λ n. n ≤ 2 ^ 64 - 1) (map (peak ways choices loads p) (candidates_at ways p))
    → 0 < length (candidates_at ways p)
    → IsFirstLeast (map (peak ways choices loads p) (candidates_at ways p)) (lightest ways choices loads p)
