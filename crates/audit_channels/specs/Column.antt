-- The channels of edges, and the channels that packets for the same LID take one after the other. A column has, for
-- each vertex, the edge along which these packets leave it.
use Rattle.std.specs.Prelude.{◌≡◌, ◌↔◌, ◌⊎◌, ◌<◌, ◌+◌, ◌*◌, ℕ, List, Option, None, Some, length, slice_index_or}
use Rattle.port_graph.specs.declared.edge.Edge.{Edge}
use Rattle.audit_channels.specs.declared.column.Turn.{Turn}
use Rattle.audit_channels.specs.ChannelOrders.{Follows}

-- the number of the channel of `edge`, an edge of `vertex`
abbrev pub number_of : ℕ → Edge → ℕ
number_of vertex edge = 256 * vertex + edge.port

-- a packet leaves `vertex` on `channel`, along the vertex's edge in `before`, and leaves the next vertex on `next`,
-- along that vertex's edge in `now`
pub record TakesAcross (before now : List (Option Edge)) (vertex channel next : ℕ) : Type 0 where
  pub first : Edge
  pub second : Edge
  pub leaves : slice_index_or before vertex None ≡ Some first
  pub leaves_there : slice_index_or now first.to None ≡ Some second
  pub channel_is : channel ≡ number_of vertex first
  pub next_is : next ≡ number_of first.to second

-- no packet leaves `vertex` along its edge in `before` and then leaves the next vertex along that vertex's edge in
-- `now`
abbrev pub TakesNone : List (Option Edge) → List (Option Edge) → ℕ → Type 0
TakesNone before now vertex = (channel next : ℕ) → TakesAcross before now vertex channel next → ⊥

-- `turn` has two channels that a packet takes one after the other, starting at `vertex`: the first along the edge in
-- `before`, and the second along the edge in `now`. Both are channels of vertices of these columns
pub record IsTurn (before now : List (Option Edge)) (vertex : ℕ) (turn : Turn) : Type 0 where
  pub takes : TakesAcross before now vertex turn.channel turn.next
  pub channel_within : turn.channel < 256 * length before
  pub next_within : turn.next < 256 * length now

-- starting at one of the first `count` vertices, a packet takes `channel` along an edge in `before` and then `next`
-- along an edge in `now`
abbrev pub TakesAmong : ℕ → List (Option Edge) → List (Option Edge) → ℕ → ℕ → Type 0
TakesAmong count before now channel next = (vertex : ℕ) × (vertex < count) × TakesAcross before now vertex channel next

-- in `new` a channel `b` follows a channel `a` exactly when it does in `old`, or when, starting at one of the first
-- `count` vertices, a packet takes `a` along an edge in `before` and then `b` along an edge in `now`
pub record IsWithSome (count : ℕ) (old : List (List ℕ)) (before now : List (Option Edge)) (new : List (List ℕ)) : Type 0
  where
    pub as_many : length new ≡ length old
    pub follows : (a b : ℕ) → Follows new a b ↔ (Follows old a b ⊎ TakesAmong count before now a b)

-- in `new` a channel `b` follows a channel `a` exactly when it does in `old`, or when, starting at some vertex, a
-- packet takes `a` along an edge in `before` and then `b` along an edge in `now`
abbrev pub IsWithAcross : List (List ℕ) → List (Option Edge) → List (Option Edge) → List (List ℕ) → Type 0
IsWithAcross old before now new = IsWithSome (length before) old before now new

-- a packet takes `channel` at `vertex` and then `next`, both along edges in `column`
abbrev pub TakesInTurn : List (Option Edge) → ℕ → ℕ → ℕ → Type 0
TakesInTurn column vertex channel next = TakesAcross column column vertex channel next

-- in `new` a channel `b` follows a channel `a` exactly when it does in `old`, or when a packet takes `a` and then
-- `b`, both along edges in `column`
abbrev pub IsWithColumn : List (List ℕ) → List (Option Edge) → List (List ℕ) → Type 0
IsWithColumn old column new = IsWithAcross old column column new
