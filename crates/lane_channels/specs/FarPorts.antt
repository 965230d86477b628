-- The ports behind wires, by which packets come into the next switch.
use Rattle.std.specs.Prelude.{ℕ, ◌/◌, ◌%◌, slice_get}
use Rattle.std.specs.Option.{option_map_or}
use Rattle.subnet_view.specs.Reading.{Cells, switches}
use Rattle.subnet_view.specs.Wires.{across}

-- the port of a pair of a node and a port
abbrev pub port_in : ℕ × ℕ → ℕ
port_in q = q.1

-- the port at the far end of the wire in port `p` of node `g`; 0 if there is no wire
abbrev pub far_port : Cells → ℕ → ℕ → ℕ
far_port cells g p = option_map_or port_in (across cells g p) 0

-- the port at the far end of the wire in port `number` % 256 of the usable switch at index `number` / 256; 0 if there
-- is no wire or no such switch
abbrev pub far_port_by : Cells → ℕ → ℕ
far_port_by cells number =
    option_map_or (λ g. far_port cells g (number % 256)) (slice_get (switches cells) (number / 256)) 0
