-- Packets for one LID followed from stop to stop. `columns` has the LID's edges by each table. The mark of a stop and
-- a level has the last LID whose packets of that level were followed from the stop. Each switch has 4096 marks.
use Rattle.std.specs.Prelude.{◌≡◌, ◌⊎◌, ◌<◌, ◌≤◌, ◌+◌, ◌*◌, ℕ, ◌==◌, ◌||◌, Bool, List, Option, None, Some, length, nat_le, slice_index_or}
use Rattle.subnet_view.specs.Reading.{Cells, switches}
use Rattle.audit_channels.specs.ChannelOrders.{Follows}
use Rattle.lanes_file.specs.Lanes.{LanesSaid}
use Rattle.lane_channels.specs.declared.dropped.Dropped.{Dropped}
use Rattle.lane_channels.specs.Stops.{Columns, ComesAfter, IsNextStop}
use Rattle.lane_channels.specs.LaneTurns.{DropsBefore, TakesByLane}

-- the number of the mark of a stop and a level
abbrev pub mark_number : ℕ → ℕ → ℕ
mark_number level stop = 16 * stop + level

-- the mark of `stop` and `level` is `lid`: packets of `level` for `lid` were followed from `stop`
abbrev pub IsMarked : ℕ → List ℕ → ℕ → ℕ → Type 0
IsMarked lid marks level stop = slice_index_or marks (mark_number level stop) 0 ≡ lid

-- nothing is left to follow from `stop`: it is at none of `count` switches, or packets of `level` for `lid` were
-- followed from there
abbrev pub is_done : ℕ → ℕ → List ℕ → ℕ → ℕ → Bool
is_done count lid marks level stop =
    nat_le (256 * count) stop || slice_index_or marks (mark_number level stop) 0 == lid

-- nothing is left to follow from `stop`: packets of `level` for `lid` were followed from there, or it is at none of
-- `count` switches
abbrev pub IsDone : ℕ → ℕ → List ℕ → ℕ → ℕ → Type 0
IsDone count lid marks level stop = IsMarked lid marks level stop ⊎ (256 * count ≤ stop)

-- packets for `lid` that were followed from a stop were also followed from the stops to which they go from there
abbrev pub IsClosed : LanesSaid → Cells → Columns → ℕ → List ℕ → Type 0
IsClosed said cells columns lid marks =
    (level : ℕ) (stop next : ℕ) → level < 16 → IsMarked lid marks level stop
    → IsNextStop said cells columns level stop next
    → IsDone (length (switches cells)) lid marks level next

-- the channels by lane that followed packets for `lid` take in turn follow each other in `waits`
abbrev pub AreRecorded : LanesSaid → Cells → Columns → ℕ → List ℕ → List (List ℕ) → Type 0
AreRecorded said cells columns lid marks waits =
    (level stop : ℕ) (a b : ℕ) → level < 16 → IsMarked lid marks level stop
    → TakesByLane said cells columns level stop a b → Follows waits a b

-- if no dropped packet is noted, no followed packet for `lid` is dropped for want of a lane
abbrev pub IsNoted : LanesSaid → Cells → Columns → ℕ → List ℕ → Option Dropped → Type 0
IsNoted said cells columns lid marks dropped =
    dropped ≡ None → (level stop : ℕ) (out : ℕ) → level < 16 → IsMarked lid marks level stop
    → DropsBefore said cells columns level stop out → ⊥

-- a set of packets, each given by its level and the stop at which it begins, or None if it begins at no stop
abbrev pub Beginnings : Type 1
Beginnings = ℕ → Option ℕ → Type 0

-- a packet of `level`, one of `these`, reaches `stop`
pub record Reaches (said : LanesSaid) (cells : Cells) (columns : Columns) (these : Beginnings) (level : ℕ)
    (stop : ℕ) : Type 0 where
  pub first : Option ℕ
  pub begins : these level first
  pub count : ℕ
  pub is_there : ComesAfter said cells columns level count first stop

-- one of the packets `these` takes `channel` and then `next`
pub record OneTakes (said : LanesSaid) (cells : Cells) (columns : Columns) (these : Beginnings)
    (channel next : ℕ) : Type 0 where
  pub level : ℕ
  pub stop : ℕ
  pub reaches : Reaches said cells columns these level stop
  pub takes : TakesByLane said cells columns level stop channel next

-- `dropped` is for `lid`, and is one of the packets `these` that is dropped for want of a lane
pub record IsDroppedOne (said : LanesSaid) (cells : Cells) (columns : Columns) (these : Beginnings) (lid : ℕ)
    (dropped : Dropped) : Type 0 where
  pub lid_is : dropped.lid ≡ lid
  pub reaches : Reaches said cells columns these dropped.level dropped.stop
  pub drops : DropsBefore said cells columns dropped.level dropped.stop dropped.out

-- the record of packets that were followed: marks, the channels that follow each channel, and a dropped packet, if one
-- was noted
pub record Walked : Type 0 where
  pub marks : List ℕ
  pub waits : List (List ℕ)
  pub dropped : Option Dropped

-- packets for `lid` that were followed at all are followed to their ends. The channels that they take in turn are
-- recorded; if one is dropped, some dropped packet is noted
pub record IsWhole (said : LanesSaid) (cells : Cells) (columns : Columns) (lid : ℕ) (w : Walked) : Type 0 where
  pub closed : IsClosed said cells columns lid w.marks
  pub recorded : AreRecorded said cells columns lid w.marks w.waits
  pub noted : IsNoted said cells columns lid w.marks w.dropped

-- `new` is `old` after the packets `these` for `lid` were followed too
pub record AreFollowed (said : LanesSaid) (cells : Cells) (columns : Columns) (lid : ℕ) (these : Beginnings)
    (old new : Walked) : Type 0 where
  pub as_many : length new.waits ≡ length old.waits
  pub as_many_marks : length new.marks ≡ length old.marks
  pub no_later : ((i : ℕ) → slice_index_or old.marks i 0 ≤ lid) → (i : ℕ) → slice_index_or new.marks i 0 ≤ lid
  pub kept : (level stop : ℕ) → IsMarked lid old.marks level stop → IsMarked lid new.marks level stop
  pub small : (level : ℕ) (first : Option ℕ) → these level first → level < 16
  pub begun : (level : ℕ) (first : Option ℕ) (stop : ℕ) → these level first → first ≡ Some stop
      → IsDone (length (switches cells)) lid new.marks level stop
  pub whole : IsWhole said cells columns lid old → IsWhole said cells columns lid new
  pub waits_kept : (a b : ℕ) → Follows old.waits a b → Follows new.waits a b
  pub waits_only : (a b : ℕ) → Follows new.waits a b
      → Follows old.waits a b ⊎ OneTakes said cells columns these a b
  pub dropped_kept : (d : Dropped) → old.dropped ≡ Some d → new.dropped ≡ None → ⊥
  pub dropped_only : (d : Dropped) → new.dropped ≡ Some d
      → (old.dropped ≡ Some d) ⊎ IsDroppedOne said cells columns these lid d

-- the packets of `level` that begin at `first`
abbrev pub Begins : ℕ → Option ℕ → Beginnings
Begins level first l f = (l ≡ level) × (f ≡ first)

-- the packets of the given level that begin at `first`; no packets if the level is None
abbrev pub BeginsIf : Option ℕ → Option ℕ → Beginnings
BeginsIf level first l f = (level ≡ Some l) × (f ≡ first)
