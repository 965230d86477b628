-- A light sweep: in place of a sweep, each switch that the last sweep reached is asked for SwitchInfo alone. PortStateChange
-- there is 1 if a port of the switch has changed its state by itself since a Set cleared the bit. InfiniBand Architecture
-- Specification, Volume 1: subnet management, SwitchInfo.
use Rattle.std.specs.Prelude.{ℕ, ◌%◌, ◌/◌, ◌^◌, Bool, false, ◌&&◌, List, ◌==◌, if◌then◌else◌}
use Rattle.std.specs.Prelude.{Option, None, Some, is_none, option_and_then, replicate, slice_get}
use Rattle.std.specs.Option.{option_map_or}
use Rattle.std.specs.Str.{bytes_eq}
use Rattle.smp_bytes.specs.Field.{bits_in, bytes_in, number_in}
use Rattle.smp_bytes.specs.Header.{get, switch_info}
use Rattle.smp_bytes.specs.NodeType.{is_switch}
use Rattle.smp_bytes.specs.Packet.{attribute_data, attribute_id, fault_of, is_response, status, transaction_id}
use Rattle.smp_bytes.specs.Requests.{directed}
use Rattle.attr_codec.specs.SwitchInfo.{port_state_change}
use Rattle.sweep.specs.Sweep.{Sweep, switch_image, transaction_of}
use Rattle.sweep.specs.declared.vertex.Vertex.{Vertex}

-- requests ---------------------------------------------------------------------------------------

-- the request to the vertex `v`, which the sweep `s` reached, at index `i` among its vertices: a Get of SwitchInfo along
-- the path by which the vertex was reached. Its TransactionID has the generation of the sweep and the index
abbrev pub light_packet : Sweep → ℕ → Vertex → List ℕ
light_packet s i v = directed get switch_info 0 (transaction_of s.generation (i % 2 ^ 32)) v.path (replicate 64 0)

-- the request to the vertex at index `i` among those that the sweep `s` reached; None if that is no switch
abbrev pub light_request : Sweep → ℕ → Option (List ℕ)
light_request s i =
    option_and_then (λ v. if is_switch v.kind then Some (light_packet s i v) else None) (slice_get s.reached i)

-- answers ----------------------------------------------------------------------------------------

-- whether `packet` is an answer with status 0 to a Get of SwitchInfo whose TransactionID has the generation of `s`
abbrev pub answers_light : Sweep → List ℕ → Bool
answers_light s packet =
    is_response packet
    && (number_in attribute_id packet == switch_info
    && (status packet == 0 && number_in transaction_id packet / 2 ^ 32 == s.generation))

-- whether SwitchInfo in `packet` is `image`, in which no port has changed its state
abbrev pub is_same_info : List ℕ → List ℕ → Bool
is_same_info packet image =
    bits_in port_state_change image == 0 && bytes_eq (bytes_in attribute_data packet) image

-- whether SwitchInfo in `packet` is the one that the sweep `s` read of the vertex `v`, and no port has changed its state
abbrev pub is_as_read : Sweep → List ℕ → Vertex → Bool
is_as_read s packet v = option_map_or (is_same_info packet) (switch_image s v.guid) false

-- whether `packet` answers a request of a light sweep, and says that its switch is as the sweep `s` read it
abbrev pub says_same : Sweep → List ℕ → Bool
says_same s packet =
    answers_light s packet
    && option_map_or (is_as_read s packet) (slice_get s.reached (number_in transaction_id packet % 2 ^ 32)) false

-- whether the bytes `packet` answer a request of a light sweep, and say that its switch is as the sweep `s` read it
abbrev pub is_same : Sweep → List ℕ → Bool
is_same s packet = is_none (fault_of packet) && says_same s packet
