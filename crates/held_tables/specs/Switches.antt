-- The usable switches of a view, by index, and where the wires in their ports lead.
use Rattle.std.specs.Prelude.{ℕ, ◌/◌, ◌%◌, ◌==◌, Bool, false, List, Option, None, Some, map, nat_lt, slice_get, slice_index_or}
use Rattle.std.specs.Option.{option_map_or}
use Rattle.std.specs.List.{list_all, position, range_with_len}
use Rattle.subnet_view.specs.declared.end_port.EndPort.{EndPort}
use Rattle.subnet_view.specs.Reading.{Cells, port_count_of, switches}
use Rattle.subnet_view.specs.Wires.{across}
use Rattle.held_tables.specs.Held.{HeldPlan}
use Rattle.held_tables.specs.Tables.{index_of, top_of}
use Rattle.held_tables.specs.declared.audited_switch.AuditedSwitch.{AuditedSwitch}
use Rattle.held_tables.specs.declared.far_end.Far.{Far}
use Rattle.held_tables.specs.declared.far_end.Far.TheVariants.{Nothing, Switch, Port}
use Rattle.held_tables.specs.declared.senders.Sender.{Sender}
use Rattle.held_tables.specs.declared.wired_switch.WiredSwitch.{WiredSwitch}

-- the index of `guid` in `guids`; None if `guids` does not have it
abbrev pub index_in : List ℕ → ℕ → Option ℕ
index_in guids guid = position (λ g. g == guid) guids

-- the far end of a wire to the port `q`: the usable switch at the given index or, if there is no index since the node
-- of `q` is not a usable switch, `q` itself
abbrev pub far_at : ℕ × ℕ → Option ℕ → Far
far_at q None = Port (record { node = q.0; port = q.1 })
far_at q (Some index) = Switch index

-- the far end of a wire to the given port, where `guids` are those of the usable switches; `Nothing` if there is no
-- port, since there is no wire
abbrev pub far_to : List ℕ → Option (ℕ × ℕ) → Far
far_to guids None = Nothing
far_to guids (Some q) = far_at q (index_in guids q.0)

-- the far end of the wire in port `p` of node `g`: a usable switch, another port, or `Nothing` if there is no wire
abbrev pub far_of : Cells → ℕ → ℕ → Far
far_of cells g p = far_to (switches cells) (across cells g p)

-- the far ends of the wires in ports 0 to 254 of node `g`; no port has the number 255
abbrev pub row_of : Cells → ℕ → List Far
row_of cells g = map (far_of cells g) (range_with_len 0 255)

-- the far end of the wire in port n % 256 of the usable switch at index n / 256; `Nothing` if there is no wire or no
-- such switch
abbrev pub far_by : Cells → ℕ → Far
far_by cells n =
    option_map_or (λ g. slice_index_or (row_of cells g) (n % 256) Nothing) (slice_get (switches cells) (n / 256))
    Nothing

-- the end port `e` as a sender: with the index of its node among the usable switches, or None if it is not one, and
-- the far end of the wire in the port, or `Nothing` if there is no wire
abbrev pub sender_of : Cells → EndPort → Sender
sender_of cells e = record { port = e; switch = index_in (switches cells) e.node; far = far_of cells e.node e.port }

-- if a wire leads to a usable switch, the index of this switch; otherwise None
abbrev pub switch_over : Far → Option ℕ
switch_over Nothing = None
switch_over (Switch index) = Some index
switch_over (Port e) = None

-- the index of the first switch that the packets of a sender reach: the sender's own switch, at the given index, or
-- else the switch to which its wire leads; None if there is no such switch
abbrev pub first_by : Option ℕ → Far → Option ℕ
first_by (Some index) far = Some index
first_by None far = switch_over far

-- the index of the first switch that the packets of `source` reach; None if these packets reach no switch
abbrev pub first_switch : Sender → Option ℕ
first_switch source = first_by source.switch source.far

-- whether there is an index, and it is below `count`
abbrev pub is_among : ℕ → Option ℕ → Bool
is_among count None = false
is_among count (Some index) = nat_lt index count

-- whether each of `firsts` is the index of one of `count` switches
abbrev pub all_begin : ℕ → List (Option ℕ) → Bool
all_begin count firsts = list_all (is_among count) firsts

-- the usable switch `g`, with the far ends of the wires in its ports, and its number of ports
abbrev pub wired_of : Cells → ℕ → WiredSwitch
wired_of cells g = record { guid = g; row = row_of cells g; ports = port_count_of cells g }

-- `switch` with its index among the switches of `held`, and its top there
abbrev pub node_by : HeldPlan → WiredSwitch → AuditedSwitch
node_by held switch = record {
  guid = switch.guid;
  row = switch.row;
  index = index_of held switch.guid;
  top = top_of held switch.guid;
  ports = switch.ports;
}

-- the usable switch `g`, with the far ends of its wires, its number of ports, and its index and its top in `held`
abbrev pub node_of : Cells → HeldPlan → ℕ → AuditedSwitch
node_of cells held g = node_by held (wired_of cells g)
