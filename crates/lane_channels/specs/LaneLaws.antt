-- Numbers of channels by lane rule out credit loops, and lanes below 15 rule out drops.
use Rattle.std.specs.Prelude.{ℕ, Bool, List, ◌<◌, ◌+◌}
use Rattle.fact_store.specs.View.{cells_of}
use Rattle.audit_channels.specs.ChannelOrders.{CanRise, IsCycle}
use Rattle.audit_channels.specs.Waiting.{WaitsFor}
use Rattle.held_tables.specs.Held.{HeldPlan}
use Rattle.lanes_file.specs.Carried.{CarriesAll}
use Rattle.lane_channels.specs.declared.dropped.Dropped.{Dropped}
use Rattle.lane_channels.specs.LaneNetwork.{SeenByLane}
use Rattle.lane_channels.specs.AnyTables.{IsDroppedByAny}
use Rattle.lane_channels.specs.Waiting.{WaitsByLane}
use Rattle.fabric_model.specs.declared.cable.NodePort.{NodePort}
use Rattle.fabric_model.specs.Fabric.{Fabric, IsEndPort}
use Rattle.fabric_model.specs.FabricWalks.{IsJoinedTo}
use Rattle.fabric_model.specs.Forwarding.{Hop}
use Rattle.packet_walks.specs.Fabrics.{IsSeenIn}
use Rattle.lane_channels.specs.Fabrics.{LaneMaps, HoldLanes, IsLaneChannel, IsCarried, TravelsAt}

-- if numbers of channels on one lane can rise under the held tables, numbers of channels by lane can rise too, whatever
-- the lanes and the service levels are
abbrev pub OneLaneSuffices : Type 0
OneLaneSuffices =
    (s : SeenByLane) (answers : Bool) → CanRise (WaitsFor (cells_of s.seen.facts) s.seen.held)
    → CanRise (WaitsByLane s answers)

-- if numbers of channels by lane can rise under the held tables, no channels by lane wait in a credit loop
abbrev pub NeverBothByLane : Type 0
NeverBothByLane =
    (s : SeenByLane) (answers : Bool) (cycle : List ℕ) → CanRise (WaitsByLane s answers)
    → ¬ (IsCycle (WaitsByLane s answers) cycle)

-- if all packets that have a service level have a lane below 15 according to the text, no packet is dropped for want
-- of a lane, under any of several tables
abbrev pub AllCarried : Type 0
AllCarried =
    (s : SeenByLane) (others : List HeldPlan) (answers : Bool) → CarriesAll s.said → (dropped : Dropped)
    → ¬ (IsDroppedByAny s others answers dropped)

-- suppose the facts describe all that is joined to the end port `origin`, the end ports and switches there hold the
-- tables and the lanes, and numbers rise according to facts, tables and lanes. Then of two channels by lane that a
-- packet takes one right after the other, without being dropped, the second has the greater number. One of these end
-- ports sends the packet, at a level that the packet has
abbrev pub LaneChannelsRise : Type 0
LaneChannelsRise =
    (s : SeenByLane) (answers : Bool) (f : Fabric) (origin : NodePort) (vl : LaneMaps) → IsEndPort f origin
    → IsSeenIn (IsJoinedTo f origin) (cells_of s.seen.facts) s.seen.held f
    → HoldLanes (IsJoinedTo f origin) s.said f vl → (r : CanRise (WaitsByLane s answers)) (level : ℕ) (hops : List Hop)
    → TravelsAt s answers (IsJoinedTo f origin) f level hops → (nth channel next : ℕ)
    → IsCarried (cells_of s.seen.facts) f vl level hops (nth + 2)
    → IsLaneChannel (cells_of s.seen.facts) f vl level hops nth channel
    → IsLaneChannel (cells_of s.seen.facts) f vl level hops (nth + 1) next
    → r.number channel < r.number next
