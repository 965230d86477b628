-- The number of adapters at each switch of a view, counted by ports.
use Rattle.std.specs.Prelude.{ℕ, Bool, false, not, List, filter, length, map}
use Rattle.std.specs.List.{range_with_len}
use Rattle.std.specs.Option.{option_map_or}
use Rattle.subnet_view.specs.Reading.{Cells, is_usable, port_count_of, switches}
use Rattle.subnet_view.specs.Wires.{across}

-- whether the wire in port `p` of node `g` leads to an adapter, that is, a node that is not a usable switch; false if
-- the port has no wire
abbrev pub has_adapter_at : Cells → ℕ → ℕ → Bool
has_adapter_at cells g p = option_map_or (λ q. not (is_usable cells q.0)) (across cells g p) false

-- the number of ports of switch `g` that are wired to adapter ports
abbrev pub adapters_at : Cells → ℕ → ℕ
adapters_at cells g = length (filter (has_adapter_at cells g) (range_with_len 1 (port_count_of cells g)))

-- the number of adapters at each usable switch, counted by ports, in ascending order of the switches' GUIDs
abbrev pub adapters_of : Cells → List ℕ
adapters_of cells = map (adapters_at cells) (switches cells)
