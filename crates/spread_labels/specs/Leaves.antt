-- The leaf vertices, which have adapters.
use Rattle.std.specs.Prelude.{ℕ, List, filter, length, nat_lt, slice_index}
use Rattle.spread_labels.specs.Orders.{numbers_from}

-- the vertices that have adapters, in ascending order; `adapters` has the number of adapters at each vertex
abbrev pub leaf_vertices : List ℕ → List ℕ
leaf_vertices adapters = filter (λ v. nat_lt 0 (slice_index adapters v)) (numbers_from 0 (length adapters))
