-- When a packet answers a request: when it has the request's TransactionID, attribute, modifier, class and path.
-- InfiniBand Architecture Specification, Volume 1: management datagrams, TransactionID; directed route SMPs.
use Rattle.std.specs.Prelude.{ℕ, ◌+◌, Bool, true, ◌&&◌, not, List, [], ◌∷◌, length, ◌==◌, Option, Some, None}
use Rattle.smp_bytes.specs.Field.{number_in}
use Rattle.smp_bytes.specs.Packet.{transaction_id, attribute_id, attribute_modifier, hop_count, initial_path, is_directed}

-- whether InitialPath of `packet` has the ports `ports`, starting at index `i`
abbrev pub has_ports : List ℕ → ℕ → List ℕ → Bool
has_ports packet i [] = true
has_ports packet i (port ∷ ports) = number_in (initial_path i) packet == port && has_ports packet (i + 1) ports

-- whether `packet` is directed along `path`; if `path` is None, whether `packet` is not directed
abbrev pub goes_by : List ℕ → Option (List ℕ) → Bool
goes_by packet None = not (is_directed packet)
goes_by packet (Some path) =
    is_directed packet && (number_in hop_count packet == length path && has_ports packet 1 path)

-- whether `packet` has the AttributeID `attribute` and the AttributeModifier `modifier`, and goes by `path` (`goes_by`)
abbrev pub is_of : List ℕ → ℕ → ℕ → Option (List ℕ) → Bool
is_of packet attribute modifier path =
    number_in attribute_id packet == attribute
    && (number_in attribute_modifier packet == modifier && goes_by packet path)

-- whether `packet` has the TransactionID `transaction`, the AttributeID `attribute` and the AttributeModifier
-- `modifier`, and goes by `path` (`goes_by`)
abbrev pub answers : List ℕ → ℕ → ℕ → ℕ → Option (List ℕ) → Bool
answers packet transaction attribute modifier path =
    transaction == number_in transaction_id packet && is_of packet attribute modifier path
