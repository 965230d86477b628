-- Which channels packets wait for under the held tables. Channels that wait in a cycle (`IsCycle`) are a credit loop; if
-- numbers can rise along the ways of packets (`CanRise`), there is none. InfiniBand Architecture Specification, Volume 1:
-- switches, unicast forwarding by the linear forwarding table; link layer, flow control by credits.
use Rattle.std.specs.Prelude.{◌≤◌, ◌*◌, ℕ, List, Option, length}
use Rattle.port_graph.specs.declared.edge.Edge.{Edge}
use Rattle.audit_channels.specs.ChannelOrders.{CanRise, Follows, IsCycle}
use Rattle.audit_channels.specs.Column.{TakesInTurn}
use Rattle.subnet_view.specs.Reading.{Cells, switches}
use Rattle.packet_walks.specs.Held.{HeldPlan}
use Rattle.packet_walks.specs.Edges.{edges_of}

-- for some LID, whether or not an end port holds it, packets leave a switch on `channel` and the next switch on
-- `next`
pub record WaitsFor (cells : Cells) (held : HeldPlan) (channel next : ℕ) : Type 0 where
  pub lid : ℕ
  pub is_lid : 1 ≤ lid
  pub switch : ℕ
  pub takes : TakesInTurn (edges_of cells held lid) switch channel next

-- the number of channels: each usable switch has 256, one for each number of a port
abbrev pub channel_count : Cells → ℕ
channel_count cells = 256 * length (switches cells)

-- if packets take two channels one after the other along the edges of `column`, the second follows the first in
-- `waits`
abbrev pub IsAdded : List (Option Edge) → List (List ℕ) → Type 0
IsAdded column waits = (switch channel next : ℕ) → TakesInTurn column switch channel next → Follows waits channel next

-- if numbers of channels can rise along the ways of packets, no channels wait in a credit loop
abbrev pub NeverBoth : Type 0
NeverBoth =
    (cells : Cells) (held : HeldPlan) (cycle : List ℕ) → CanRise (WaitsFor cells held)
    → ¬ (IsCycle (WaitsFor cells held) cycle)
