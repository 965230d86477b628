-- The law of starts: each is the farthest vertex from those before it.
use Rattle.std.specs.Prelude.{◌≡◌, ◌<◌, false, ℕ, Bool, min, List, length, take, slice_index}
use Rattle.port_graph.specs.declared.edge.Edge.{Edge}
use Rattle.spread_labels.specs.declared.key_order.VertexKey.{VertexKey}
use Rattle.spread_labels.specs.KeyOrder.{before_by}
use Rattle.trial_loads.specs.Starts.{is_farther, near_start, starts}

-- no vertex is farther from `starts` than vertex `s`, and no vertex that is as far comes before `s`
pub record IsFarthest (edges : List (List Edge)) (before : ℕ → ℕ → Bool) (starts : List ℕ) (s : ℕ) : Type 0 where
  pub vertex : s < length edges
  pub farthest : (t : ℕ) → t < length edges → is_farther (near_start edges starts t) (near_start edges starts s) ≡ false
  pub first : (t : ℕ) → t < length edges → near_start edges starts t ≡ near_start edges starts s → before t s ≡ false

-- there are eight starts, or as many as the graph has vertices if these are fewer. Each is the farthest vertex from the
-- starts before it, the first of several; so the first start is the first of all vertices
pub record AreStarts (edges : List (List Edge)) (before : ℕ → ℕ → Bool) (starts : List ℕ) : Type 0 where
  pub all : length starts ≡ min (length edges) 8
  pub each : (i : ℕ) → i < length starts → IsFarthest edges before (take i starts) (slice_index starts i)

-- the vertices from which orders by depth are tried, in a graph whose vertices come in the order of any keys
abbrev pub StartsLaw : Type 0
StartsLaw = (edges : List (List Edge)) (keys : List VertexKey)
    → AreStarts edges (before_by keys) (starts edges (before_by keys) (min (length edges) 8))
