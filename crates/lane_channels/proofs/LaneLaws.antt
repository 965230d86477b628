-- Numbers of channels by lane.
use Rattle.std.proofs.Common.{◌≡◌, ◌<◌, ◌+◌, ◌*◌, ◌/◌, ◌%◌, ℕ, zero, suc, List, [], ◌∷◌, inl, inr, arith}
use Rattle.std.specs.Prelude.{Option, None, Some, slice_index_or}
use Rattle.port_graph.specs.declared.edge.Edge.{Edge}
use Rattle.fact_store.specs.View.{cells_of}
use Rattle.packet_walks.specs.Edges.{edges_of}
use Rattle.audit_channels.specs.Column.{TakesAcross, number_of}
use Rattle.audit_channels.proofs.Orders.{no_cycle}
use Rattle.lane_channels.specs.LaneLaws.{AllCarried, NeverBothByLane, OneLaneSuffices}
use Rattle.lane_channels.specs.Stops.{HasEdge, guid_at, lane_between, lane_by, port_across}
use Rattle.lane_channels.specs.Waiting.{WaitsByLane}
use Rattle.lane_channels.proofs.Visits.{no_column}

-- the channel without its lane
pub without_lane : (channel n lane : ℕ) → channel ≡ 16 * n + lane → lane < 15 → channel / 16 ≡ n
without_lane channel n lane e less = omega arith

-- an edge by the only column
sole : (column : List (Option Edge)) (index : ℕ) (edge : Edge) → HasEdge (column ∷ []) index edge → slice_index_or column index None ≡ Some edge
sole column index edge (zero, is) = is
sole column index edge (suc nth, is) = absurd (no_column index edge is)

pub one_lane_suffices : OneLaneSuffices
one_lane_suffices s answers rise = record { number = λ c. rise.number (c / 16); rises = rises }
  where
    rises : (a b : ℕ) → WaitsByLane s answers a b → rise.number (a / 16) < rise.number (b / 16)
    rises a b w =
        let one = w.takes in
        let t = one.takes in
        let cells = cells_of s.seen.facts in
        let a_is : a / 16 ≡ number_of (one.stop / 256) t.first =
        without_lane a (number_of (one.stop / 256) t.first) (lane_by s.said cells one.level one.stop t.first) t.channel_is t.lane_is in
        let b_is : b / 16 ≡ number_of t.first.to t.second =
        without_lane b (number_of t.first.to t.second)
        (lane_between s.said cells one.level t.first.to (port_across cells (one.stop / 256) t.first.port) t.second.port) t.next_is
        t.lane_there_is in
        let takes : TakesAcross (edges_of cells s.seen.held w.lid) (edges_of cells s.seen.held w.lid) (one.stop / 256) (a / 16) (b / 16) =
        record {
          first = t.first;
          second = t.second;
          leaves = sole (edges_of cells s.seen.held w.lid) (one.stop / 256) t.first t.leaves;
          leaves_there = sole (edges_of cells s.seen.held w.lid) t.first.to t.second t.leaves_there;
          channel_is = a_is;
          next_is = b_is;
        } in
        rise.rises (a / 16) (b / 16) (record { lid = w.lid; is_lid = w.is_lid; switch = (one.stop / 256); takes = takes })

pub never_both_by_lane : NeverBothByLane
never_both_by_lane s answers cycle rise = no_cycle (WaitsByLane s answers) rise cycle

-- a packet has a level of its own, or that of a packet that it answers; by either it has a lane where it is dropped
pub all_carried : AllCarried
all_carried s others answers carried dropped d =
    let level = dropped.level in
    let stop = dropped.stop in
    let edge = d.one.drops.edge in
    let guid = guid_at (cells_of s.seen.facts) (stop / 256) in
    let sent = d.one.reaches.begins.1 in
    let below : lane_by s.said (cells_of s.seen.facts) level stop edge < 15 = elim sent.has_level [
      | inl own ↦ carried sent.source.node sent.source.port dropped.lid level own guid (stop % 256) edge.port
      | inr asked ↦ (
          let by = asked.1 in carried by.asker.node by.asker.port by.asked level by.level_is guid (stop % 256) edge.port)
    ] in
    let none = d.one.drops.lane_is in omega arith
