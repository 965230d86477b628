-- Visits of stops. A visit records what packets of one level, for one LID, do at a stop along the edges of several
-- tables.
use Rattle.std.specs.Prelude.{◌≡◌, ◌⊎◌, ◌↔◌, ◌<◌, ◌*◌, ◌/◌, ℕ, List, Contains, None, Some, length, map, slice_set}
use Rattle.port_graph.specs.declared.edge.Edge.{Edge}
use Rattle.fact_store.specs.View.{cells_of}
use Rattle.subnet_view.specs.Reading.{Cells, switches}
use Rattle.audit_channels.specs.ChannelOrders.{Follows}
use Rattle.lanes_file.specs.Lanes.{LanesSaid}
use Rattle.lane_channels.specs.declared.dropped.Dropped.{Dropped}
use Rattle.lane_channels.specs.declared.walk_state.LidColumns.{LidColumns}
use Rattle.lane_channels.specs.declared.walk_state.Walks.{Walks}
use Rattle.lane_channels.specs.LaneTurns.{DropsBefore, TakesByLane}
use Rattle.lane_channels.specs.Stops.{Columns, HasEdge, IsNextStop, edge_by, lane_between, lane_number}
use Rattle.lane_channels.specs.Walk.{AreFollowed, Beginnings, IsDone, Walked, mark_number}

-- a set of edges, by the property that its members have
abbrev pub Edges : Type 1
Edges = Edge → Type 0

-- the edges of the switch at `index` in the first `count` columns
abbrev pub FirstEdges : Columns → ℕ → ℕ → Edges
FirstEdges columns index count edge = (nth : ℕ) × (nth < count) × (edge_by columns index nth ≡ Some edge)

-- the edge of the switch at `index` in the column at `nth`, if there is one, is also its edge in an earlier column
abbrev pub IsNoOther : Columns → ℕ → ℕ → Type 0
IsNoOther columns index nth = (edge : Edge) → edge_by columns index nth ≡ Some edge → FirstEdges columns index nth edge

-- packets of `level` that come in at the switch at `index` by port `into` leave it on the channel by lane `channel`,
-- along one of the edges `these`; they are not dropped there
pub record LeavesAlong (said : LanesSaid) (cells : Cells) (these : Edges) (level index into channel : ℕ) : Type 0 where
  pub edge : Edge
  pub is_one : these edge
  pub lane_is : lane_between said cells level index into edge.port < 15
  pub channel_is : channel ≡ lane_number index edge.port (lane_between said cells level index into edge.port)

-- in `new` a channel `b` follows a channel `a` exactly when it does in `old`, or when `b` is one of `nexts` and `a` is
-- `channel`
pub record IsWithNexts (old : List (List ℕ)) (channel : ℕ) (nexts : ℕ → Type 0) (new : List (List ℕ)) : Type 0 where
  pub as_many : length new ≡ length old
  pub follows : (a b : ℕ) → Follows new a b ↔ (Follows old a b ⊎ ((a ≡ channel) × nexts b))

-- starting at `stop`, a packet of `level` takes `channel`, along one of the edges `these`, and then `next`
abbrev pub TakesAlong : LanesSaid → Cells → Columns → Edges → ℕ → ℕ → ℕ → ℕ → Type 0
TakesAlong said cells columns these level stop channel next =
    (t : TakesByLane said cells columns level stop channel next) × these t.first

-- a packet of `level` is dropped at `stop` for want of a lane to port `out`, along one of the edges `these`
abbrev pub DropsAlong : LanesSaid → Cells → Columns → Edges → ℕ → ℕ → ℕ → Type 0
DropsAlong said cells columns these level stop out =
    (d : DropsBefore said cells columns level stop out) × these d.edge

-- a packet of `level` at `stop` goes to the stop `next`, along one of the edges `these`
abbrev pub GoesAlong : LanesSaid → Cells → Columns → Edges → ℕ → ℕ → ℕ → Type 0
GoesAlong said cells columns these level stop next =
    (n : IsNextStop said cells columns level stop next) × these n.edge

-- the record of the packets followed so far, and the stops that are left to visit
pub record Walking : Type 0 where
  pub kept : Walked
  pub stops : List ℕ

-- the record of the packets followed so far, without the stops that are left to visit
abbrev pub walked : Walks → Walked
walked walks = record { marks = walks.marks.items; waits = walks.waits; dropped = walks.dropped }

-- the record of the packets followed so far, and the stops that are left to visit, as `Walks` holds them
abbrev pub walking : Walks → Walking
walking walks = record { kept = walked walks; stops = walks.stops.items }

-- `new` is `old` with a record of what a packet of `level` for `lid` does at `stop` along the edges `these`: the
-- channels that it takes in turn, and a drop, if there is one. The stops to which the packet goes are left to visit
pub record AreLeft (said : LanesSaid) (cells : Cells) (columns : Columns) (lid level stop : ℕ) (these : Edges)
    (old new : Walking) : Type 0 where
  pub as_many : length new.kept.waits ≡ length old.kept.waits
  pub follows : (a b : ℕ) → Follows new.kept.waits a b
      ↔ (Follows old.kept.waits a b ⊎ TakesAlong said cells columns these level stop a b)
  pub none_dropped : new.kept.dropped ≡ None
      → (old.kept.dropped ≡ None) × ((out : ℕ) → DropsAlong said cells columns these level stop out → ⊥)
  pub dropped : (d : Dropped) → new.kept.dropped ≡ Some d
      → (old.kept.dropped ≡ Some d)
      ⊎ ((d.lid ≡ lid) × (d.level ≡ level) × (d.stop ≡ stop) × DropsAlong said cells columns these level stop d.out)
  pub stops : (s : ℕ) → Contains new.stops s
      ↔ (Contains old.stops s ⊎ GoesAlong said cells columns these level stop s)

-- `new` is `old` after a visit: `stop` is marked for `level` with `lid`, and `new` records what a packet does at `stop`
-- along any edge
pub record IsVisit (said : LanesSaid) (cells : Cells) (columns : Columns) (lid level stop : ℕ) (old new : Walking)
    : Type 0 where
  pub marks : new.kept.marks ≡ slice_set old.kept.marks (mark_number level stop) lid
  pub left : AreLeft said cells columns lid level stop (HasEdge columns (stop / 256)) old new

-- nothing is left to follow from `stop` for packets of `level`, and `new` is `old`; or `new` is `old` after a visit of
-- `stop`
abbrev pub IsVisitIfNew : LanesSaid → Cells → Columns → ℕ → ℕ → ℕ → Walking → Walking → Type 0
IsVisitIfNew said cells columns lid level stop old new =
    (IsDone (length (switches cells)) lid old.kept.marks level stop × (new ≡ old))
    ⊎ ((stop < 256 * length (switches cells)) × IsVisit said cells columns lid level stop old new)

-- the columns as lists
abbrev pub columns_in : LidColumns → Columns
columns_in c = map (λ column. column.items) c.columns.items

-- the facts of the network of `c`
abbrev pub cells_at : LidColumns → Cells
cells_at c = cells_of c.by_lane.now.seen.facts

-- `walks` has an entry for each channel by lane, and a mark for each stop and level
pub record HasRoom (c : LidColumns) (walks : Walks) : Type 0 where
  pub waits : length walks.waits ≡ 4096 * length (switches (cells_at c))
  pub marks : length walks.marks.items ≡ 4096 * length (switches (cells_at c))

-- `new` is `old` after the packets `these` for the LID of `c` were followed too
abbrev pub AreFollowedBy : LidColumns → Beginnings → Walks → Walks → Type 0
AreFollowedBy c these old new =
    AreFollowed c.by_lane.now.said (cells_at c) (columns_in c) c.lid these (walked old) (walked new)

-- `new` is `old` with a record of what a packet of `level` for the LID of `c` does at `stop` along the edges `these`
abbrev pub AreLeftBy : LidColumns → ℕ → ℕ → Edges → Walks → Walks → Type 0
AreLeftBy c level stop these old new =
    AreLeft c.by_lane.now.said (cells_at c) (columns_in c) c.lid level stop these (walking old) (walking new)

-- in `new`, a channel follows `channel` if it does in `old`, or if packets of `level` that come in at the switch at
-- `index` by port `into` leave it on this channel, along one of the edges `these`
abbrev pub IsWithNextsBy : LidColumns → Edges → ℕ → ℕ → ℕ → ℕ → List (List ℕ) → List (List ℕ) → Type 0
IsWithNextsBy c these level index into channel old new =
    IsWithNexts old channel (LeavesAlong c.by_lane.now.said (cells_at c) these level index into) new
