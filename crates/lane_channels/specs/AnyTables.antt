-- What packets do by lane while each switch may hold any of several tables: the first, or one of `others`. A switch
-- forwards a packet by the table that it holds when the packet comes. LIDs and service levels are those of the first
-- table. InfiniBand Architecture Specification, Volume 1: link layer, virtual lanes, flow control by credits.
use Rattle.std.specs.Prelude.{◌≤◌, ◌*◌, ℕ, Bool, List, ◌∷◌, Option, None, Some, length, map}
use Rattle.fact_store.specs.View.{cells_of}
use Rattle.subnet_view.specs.Reading.{switches}
use Rattle.held_tables.specs.Held.{HeldPlan}
use Rattle.packet_walks.specs.Edges.{edges_of}
use Rattle.lane_channels.specs.declared.dropped.Dropped.{Dropped}
use Rattle.lane_channels.specs.LaneNetwork.{SeenByLane}
use Rattle.lane_channels.specs.Senders.{SentFor}
use Rattle.lane_channels.specs.Stops.{Columns}
use Rattle.lane_channels.specs.Walk.{IsDroppedOne, OneTakes}

-- the edges of each usable switch for a LID, in a column for each table: the tables of `s`, and then `others`
abbrev pub columns_for : SeenByLane → List HeldPlan → ℕ → Columns
columns_for s others lid = map (λ held. edges_of (cells_of s.seen.facts) held lid) (s.seen.held ∷ others)

-- a packet that an end port sends for some LID, at a level that it has, takes `channel` and then `next`, each under
-- the tables of `s` or one of `others`; both are channels by lane
pub record WaitsByAny (s : SeenByLane) (others : List HeldPlan) (answers : Bool) (channel next : ℕ) : Type 0 where
  pub lid : ℕ
  pub is_lid : 1 ≤ lid
  pub takes : OneTakes s.said (cells_of s.seen.facts) (columns_for s others lid) (SentFor s answers lid) channel next

-- the number of channels by lane: each usable switch has 16 for each of the 256 numbers of a port
abbrev pub lane_channel_count : SeenByLane → ℕ
lane_channel_count s = 4096 * length (switches (cells_of s.seen.facts))

-- `dropped` is a packet that an end port sends for some LID and that is dropped for want of a lane, under the tables
-- of `s` or one of `others`
pub record IsDroppedByAny (s : SeenByLane) (others : List HeldPlan) (answers : Bool) (dropped : Dropped) : Type 0 where
  pub is_lid : 1 ≤ dropped.lid
  pub one : IsDroppedOne s.said (cells_of s.seen.facts) (columns_for s others dropped.lid) (SentFor s answers dropped.lid)
      dropped.lid dropped

-- the given packet is dropped for want of a lane, under the tables of `s` or one of `others`; for None, no packet is
abbrev pub IsSomeDropByAny : SeenByLane → List HeldPlan → Bool → Option Dropped → Type 0
IsSomeDropByAny s others answers None = (dropped : Dropped) → IsDroppedByAny s others answers dropped → ⊥
IsSomeDropByAny s others answers (Some dropped) = IsDroppedByAny s others answers dropped
