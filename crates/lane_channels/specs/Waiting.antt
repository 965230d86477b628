-- Channels by lane that packets take in turn under the tables that switches hold, and packets that are dropped for want
-- of a lane. Channels that follow each other in a cycle (`IsCycle`) are a credit loop by lane. InfiniBand Architecture
-- Specification, Volume 1: link layer, virtual lanes, flow control by credits.
use Rattle.std.specs.Prelude.{ℕ, Bool, [], Option}
use Rattle.lane_channels.specs.AnyTables.{IsDroppedByAny, IsSomeDropByAny, WaitsByAny}
use Rattle.lane_channels.specs.declared.dropped.Dropped.{Dropped}
use Rattle.lane_channels.specs.LaneNetwork.{SeenByLane}

-- under the held tables, a packet that an end port sends for some LID, at a level that it has, takes `channel` and
-- then `next`; both are channels by lane
abbrev pub WaitsByLane : SeenByLane → Bool → ℕ → ℕ → Type 0
WaitsByLane s answers channel next = WaitsByAny s [] answers channel next

-- under the held tables, `dropped` is a packet that an end port sends for some LID and that is dropped for want of a
-- lane
abbrev pub IsDroppedByLane : SeenByLane → Bool → Dropped → Type 0
IsDroppedByLane s answers dropped = IsDroppedByAny s [] answers dropped

-- under the held tables, `dropped` is a packet that is dropped for want of a lane; if `dropped` is None, no packet is
abbrev pub IsSomeDrop : SeenByLane → Bool → Option Dropped → Type 0
IsSomeDrop s answers dropped = IsSomeDropByAny s [] answers dropped
