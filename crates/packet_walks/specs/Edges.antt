-- The ports by which usable switches forward packets for a LID to usable switches.
use Rattle.std.specs.Prelude.{ℕ, ◌==◌, List, Option, None, Some, map, slice_index_or, if◌then◌else◌}
use Rattle.port_graph.specs.declared.edge.Edge.{Edge}
use Rattle.subnet_view.specs.Reading.{Cells, switches}
use Rattle.lid_assign.specs.Lids.{greatest}
use Rattle.held_tables.specs.Held.{HeldPlan}
use Rattle.held_tables.specs.declared.far_end.Far.{Far}
use Rattle.held_tables.specs.declared.far_end.Far.TheVariants.{Nothing, Switch, Port}
use Rattle.held_tables.specs.declared.audited_switch.AuditedSwitch.{AuditedSwitch}
use Rattle.held_tables.specs.Switches.{row_of, switch_over}
use Rattle.packet_walks.specs.HopsByTables.{node_entry}
use Rattle.held_tables.specs.Tables.{entry_for, top_of}

-- the edge by `port`, if the wire in this port leads to a usable switch; otherwise None
abbrev pub edge_to : ℕ → Far → Option Edge
edge_to port Nothing = None
edge_to port (Switch index) = Some (record { port = port; to = index })
edge_to port (Port e) = None

-- the index of the usable switch to which `entry` leads; None if `entry` is 0, or does not lead to a usable switch
abbrev pub switch_by : List Far → ℕ → Option ℕ
switch_by row entry = if entry == 0 then None else switch_over (slice_index_or row entry Nothing)

-- if `entry` is not 0 and the port `entry` leads to a usable switch, the edge by this port; otherwise None. With the
-- entry 0, a switch keeps the packet
abbrev pub edge_by : List Far → ℕ → Option Edge
edge_by row entry = if entry == 0 then None else edge_to entry (slice_index_or row entry Nothing)

-- for each usable switch, in ascending order of GUID, the edge along which the switch forwards packets for `lid`;
-- None if the switch does not forward these packets to a usable switch
abbrev pub edges_of : Cells → HeldPlan → ℕ → List (Option Edge)
edges_of cells held lid = map (λ g. edge_by (row_of cells g) (entry_for held lid g)) (switches cells)

-- the greatest top of a usable switch; 0 if there is no usable switch
abbrev pub greatest_top : Cells → HeldPlan → ℕ
greatest_top cells held = greatest (map (top_of held) (switches cells))

-- the edge along which the switch `node` forwards packets for `lid`, according to the effective entry of `node` in
-- the blocks `rows`; None if `node` does not forward these packets to a usable switch
abbrev pub edge_of : List (List ℕ) → ℕ → AuditedSwitch → Option Edge
edge_of rows lid node = edge_by node.row (node_entry rows lid node)
