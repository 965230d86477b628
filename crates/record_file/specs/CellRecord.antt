-- A cell as 32 bytes: the kind, the state, the port, a zero byte, the generation, the GUID and 16 value bytes.
use Rattle.std.specs.Prelude.{ℕ, Bool, true, false, List, [], ◌∷◌, ◌++◌, ◌-◌, ◌==◌, Option, None, Some, length, replicate, take, drop, find}
use Rattle.std.specs.Prelude.{slice_index, option_map, option_and_then, if◌then◌else◌}
use Rattle.std.specs.Int.{to_be_bytes, from_be_bytes, w16, w32, w64}
use Rattle.std.specs.Str.{bytes_eq}
use Rattle.attr_codec.specs.NodeTypeNumber.{number_of_type, type_of_number}
use Rattle.fact_join.specs.declared.cell.Cell.{Cell}
use Rattle.fact_join.specs.declared.cell.Cell.TheVariants.{Known, Disputed}
use Rattle.fact_join.specs.Cell.{generation_of}
use Rattle.reply_facts.specs.Key.{key_guid, key_kind, key_port}
use Rattle.reply_facts.specs.Sighting.{is_sighting}
use Rattle.reply_facts.specs.declared.key.Key.{Key}
use Rattle.reply_facts.specs.declared.key.Key.TheVariants.{Node, PortGuid, Link, Port, Claim, Cap}
use Rattle.reply_facts.specs.declared.value.Value.{Value}
use Rattle.reply_facts.specs.declared.value.Value.TheVariants.{Kind, Guid, Peer, Up, Lid, Count}

-- the byte of a flag: 1 if it is set, else 0
abbrev pub flag_byte : Bool → ℕ
flag_byte true = 1
flag_byte false = 0

-- the value bytes of a known value, without padding
abbrev pub value_bytes : Value → List ℕ
value_bytes (Kind kind ports) = number_of_type kind ∷ ports ∷ []
value_bytes (Guid guid) = to_be_bytes w64 guid
value_bytes (Peer guid port) = to_be_bytes w64 guid ++ port ∷ []
value_bytes (Up up) = flag_byte up ∷ []
value_bytes (Lid lid) = to_be_bytes w16 lid
value_bytes (Count count) = to_be_bytes w16 count

-- the value bytes of a cell, without padding; none if the cell is disputed
abbrev pub cell_value_bytes : Cell Value → List ℕ
cell_value_bytes (Known generation value) = value_bytes value
cell_value_bytes (Disputed generation) = []

-- 1 for a known cell, 2 for a disputed one
abbrev pub state_byte : Cell Value → ℕ
state_byte (Known generation value) = 1
state_byte (Disputed generation) = 2

-- `bytes`, filled up with zeros to `n` bytes; unchanged if there are `n` bytes or more
abbrev pub filled_up : ℕ → List ℕ → List ℕ
filled_up n bytes = bytes ++ replicate (n - length bytes) 0

-- the record of a key and its cell
abbrev pub record_bytes : Key × Cell Value → List ℕ
record_bytes e =
    key_kind e.0 ∷ state_byte e.1 ∷ key_port e.0 ∷ 0 ∷
    (to_be_bytes w32 (generation_of e.1) ++ to_be_bytes w64 (key_guid e.0) ++ filled_up 16 (cell_value_bytes e.1))

-- the six keys, one of each kind, with the GUID `guid`. They have the port `port`, except for the keys of a node and of
-- a table's size
abbrev pub keys_of : ℕ → ℕ → List Key
keys_of guid port = Node guid ∷ PortGuid guid port ∷ Link guid port ∷ Port guid port ∷ Claim guid port ∷ Cap guid ∷ []

-- the key with the kind number `kind`, the GUID `guid` and the port `port`; None if `kind` is not from 1 to 6
abbrev pub key_of : ℕ → ℕ → ℕ → Option Key
key_of kind guid port = find (λ key. kind == key_kind key) (keys_of guid port)

-- the value at the start of `bytes`, of the kind that `key` asks for; None if `key` is of a node and the type is
-- reserved
abbrev pub value_of : Key → List ℕ → Option Value
value_of (Node g) bytes = option_map (λ kind. Kind kind (slice_index bytes 1)) (type_of_number (slice_index bytes 0))
value_of (PortGuid g p) bytes = Some (Guid (from_be_bytes w64 (take 8 bytes)))
value_of (Link g p) bytes = Some (Peer (from_be_bytes w64 (take 8 bytes)) (slice_index bytes 8))
value_of (Port g p) bytes = Some (Up (slice_index bytes 0 == 1))
value_of (Claim g p) bytes = Some (Lid (from_be_bytes w16 (take 2 bytes)))
value_of (Cap g) bytes = Some (Count (from_be_bytes w16 (take 2 bytes)))

-- the cell of `key` in `generation`: if `state` is 1, known with the value in `bytes`; otherwise disputed. None if
-- `state` is 1 and `bytes` do not have a value
abbrev pub state_of : Key → ℕ → ℕ → List ℕ → Option (Cell Value)
state_of key state generation bytes =
    if state == 1 then option_map (Known generation) (value_of key bytes) else Some (Disputed generation)

-- the key and the cell that a record spells, whatever its other bytes are. None if the record's kind is reserved, or
-- if the record is of a known node whose type is reserved
abbrev pub candidate : List ℕ → Option (Key × Cell Value)
candidate bytes =
    option_and_then (λ key. option_map (λ cell. (key, cell))
    (state_of key (slice_index bytes 1) (from_be_bytes w32 (take 4 (drop 4 bytes))) (drop 16 bytes)))
    (key_of (slice_index bytes 0) (from_be_bytes w64 (take 8 (drop 8 bytes))) (slice_index bytes 2))

-- `e` if it is in range (`is_sighting`), else None
abbrev pub if_sighting : Key × Cell Value → Option (Key × Cell Value)
if_sighting e = if is_sighting e then Some e else None

-- `e` if `bytes` are its record, else None
abbrev pub if_spelled : List ℕ → Key × Cell Value → Option (Key × Cell Value)
if_spelled bytes e = if bytes_eq (record_bytes e) bytes then Some e else None

-- if `bytes` are the record of a sighting, this sighting; otherwise None
unfoldable pub cell_of : List ℕ → Option (Key × Cell Value)
cell_of bytes = option_and_then (if_spelled bytes) (option_and_then if_sighting (candidate bytes))
