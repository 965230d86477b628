-- Packets grouped by where their senders' wires lead, and the roster of end ports that says where these wires lead.
use Rattle.std.specs.Prelude.{◌≡◌, ◌<◌, ◌+◌, ◌*◌, ◌&&◌, ℕ, true, false, List, Option, None, Some, Contains, filter, length, map, slice_index}
use Rattle.std.specs.List.{list_any, sum_by}
use Rattle.std.specs.List.Sorted.{IsPermutation, IsSortedByKey}
use Rattle.smp_bytes.specs.Ports.{node_port_cmp}
use Rattle.subnet_view.specs.declared.end_port.EndPort.{EndPort}
use Rattle.subnet_view.specs.EndPort.{end_ports}
use Rattle.subnet_view.specs.Reading.{Cells, switches}
use Rattle.held_tables.specs.declared.far_end.Far.{Far}
use Rattle.held_tables.specs.declared.far_end.Far.TheVariants.{Switch}
use Rattle.held_tables.specs.declared.senders.Sender.{Sender}
use Rattle.held_tables.specs.Switches.{far_of, sender_of, switch_over}
use Rattle.held_tables.specs.Tables.{is_same_end}
use Rattle.audit_ways.specs.declared.sender_groups.Groups.{Groups}
use Rattle.audit_ways.specs.WayTally.{weighed}
use Rattle.audit_ways.specs.Ways.{is_adapter}

-- if `far` is a switch, its index is below `count`
abbrev pub IsWithin : ℕ → Far → Type 0
IsWithin count far = (index : ℕ) → far ≡ Switch index → index < count

-- the sum, for all packets of `groups`, of the value of `number` at the index of the switch that the packet reaches
-- first, or at None if the packet reaches an adapter along one wire
abbrev pub total : (Option ℕ → ℕ) → Groups → ℕ
total number groups = weighed (λ i. number (Some i)) groups.weights.items + groups.direct * number None

-- `new` is `old` with one more packet, whose sender's wire leads to `far`
pub record IsGroupedWith (old : Groups) (far : Far) (new : Groups) : Type 0 where
  pub as_many : length new.weights.items ≡ length old.weights.items
  pub sums : (number : Option ℕ → ℕ) → total number new ≡ total number old + number (switch_over far)

-- the number of packets of `groups` whose first switch is the one at the given index; for None, the number of packets
-- that reach an adapter along one wire
abbrev pub packets_at : Groups → Option ℕ → ℕ
packets_at groups None = groups.direct
packets_at groups (Some index) = slice_index groups.weights.items index

-- the value of `number` at the index of the usable switch to which the wire in `e` leads; at None if it leads to none
abbrev pub by_switch : Cells → (Option ℕ → ℕ) → EndPort → ℕ
by_switch cells number e = number (switch_over (far_of cells e.node e.port))

-- `groups` has one packet from each of `ports`, by where the wire in the port leads
pub record AreGrouped (cells : Cells) (ports : List EndPort) (groups : Groups) : Type 0 where
  pub as_many : length groups.weights.items ≡ length (switches cells)
  pub sums : (number : Option ℕ → ℕ) → sum_by (by_switch cells number) ports ≡ total number groups

-- the adapter ports of the facts
abbrev pub adapters : Cells → List EndPort
adapters cells = filter is_adapter (end_ports cells)

-- the node GUID and the port of a sender
abbrev pub port_of : Sender → ℕ × ℕ
port_of source = (source.port.node, source.port.port)

-- `roster` is in ascending order of node GUID and port
abbrev pub AreByPort : List Sender → Type 0
AreByPort roster = IsSortedByKey port_of node_port_cmp roster

-- `roster` has the end ports as senders, in ascending order of node GUID and port
pub record IsRoster (cells : Cells) (roster : List Sender) : Type 0 where
  pub moved : IsPermutation (map (sender_of cells) (end_ports cells)) roster
  pub by_port : AreByPort roster

-- by one of `sources`, the wire in `e` leads to `far`
pub record LeadsTo (sources : List Sender) (e : EndPort) (far : Far) : Type 0 where
  pub source : Sender
  pub there : Contains sources source
  pub port_is : source.port ≡ e
  pub far_is : source.far ≡ far

-- the target is where the wire in `e` leads, by one of `sources`; it is None if `e` is not an adapter port, or is not
-- in `sources`
abbrev pub IsTargetAmong : List Sender → EndPort → Option Far → Type 0
IsTargetAmong sources e None = (is_adapter e && list_any (λ source. is_same_end e source.port) sources) ≡ false
IsTargetAmong sources e (Some far) = (is_adapter e ≡ true) × LeadsTo sources e far
