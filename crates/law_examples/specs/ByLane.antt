-- Lanes that can be: the premises of the law of channels by lane are met together.
use Rattle.std.specs.Prelude.{◌≢◌, ◌+◌, ◌%◌, ℕ, false, List}
use Rattle.fact_store.specs.View.{cells_of}
use Rattle.fabric_model.specs.FabricWalks.{IsJoinedTo}
use Rattle.fabric_model.specs.Forwarding.{Hop}
use Rattle.lanes_file.specs.Lanes.{LanesSaid}
use Rattle.lanes_file.specs.WellFormed.{IsWellFormed}
use Rattle.lane_channels.specs.Fabrics.{HoldLanes, IsCarried, IsLaneChannel, LaneMaps, TravelsAt, lane_at}
use Rattle.lane_channels.specs.LaneNetwork.{SeenByLane}
use Rattle.audit_channels.specs.ChannelOrders.{CanRise}
use Rattle.lane_channels.specs.Waiting.{WaitsByLane}
use Rattle.law_examples.specs.Examples.{PartSeen}

-- the facts and tables of the part, with what a text says about lanes
abbrev pub with_lanes : PartSeen → LanesSaid → SeenByLane
with_lanes part said = record { seen = record { facts = part.facts; held = part.held }; said = said }

-- the switches of the part hold the lanes of a text, and numbers of channels by lane rise. A packet takes two channels
-- by lane one right after the other, and is dropped at neither. The two have different lanes. If the packet came to
-- the second switch by another port, it would leave on another lane
pub record ChangesLane (part : PartSeen) : Type 0 where
  pub said : LanesSaid
  pub well_formed : IsWellFormed said
  pub lanes : LaneMaps
  pub hold : HoldLanes (IsJoinedTo part.fabric part.origin) said part.fabric lanes
  pub rise : CanRise (WaitsByLane (with_lanes part said) false)
  pub level : ℕ
  pub hops : List Hop
  pub travels : TravelsAt (with_lanes part said) false (IsJoinedTo part.fabric part.origin) part.fabric level hops
  pub nth : ℕ
  pub channel : ℕ
  pub next : ℕ
  pub carried : IsCarried (cells_of part.facts) part.fabric lanes level hops (nth + 2)
  pub channel_is : IsLaneChannel (cells_of part.facts) part.fabric lanes level hops nth channel
  pub next_is : IsLaneChannel (cells_of part.facts) part.fabric lanes level hops (nth + 1) next
  pub changes : channel % 16 ≢ next % 16
  pub other : ℕ
  pub by_port : lanes next_is.hop.out.node other next_is.hop.out.port level
      ≢ lane_at lanes level hops (nth + 1) next_is.hop

-- in some part whose switches hold the lanes of a text, a packet changes its lane
abbrev pub SomePacketChangesLane : Type 0
SomePacketChangesLane = (part : PartSeen) × ChangesLane part
