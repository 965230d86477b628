-- The range of a sighting. The parts of its key are in range, and its value is of the key's kind and has its parts in
-- range.
use Rattle.std.specs.Prelude.{ℕ, ◌^◌, Bool, true, false, ◌&&◌, nat_le, nat_lt, IsTrue}
use Rattle.fact_join.specs.declared.cell.Cell.{Cell}
use Rattle.fact_join.specs.declared.cell.Cell.TheVariants.{Known, Disputed}
use Rattle.fact_join.specs.Cell.{generation_of}
use Rattle.reply_facts.specs.declared.key.Key.{Key}
use Rattle.reply_facts.specs.declared.key.Key.TheVariants.{Node, PortGuid, Link, Port, Claim, Cap}
use Rattle.reply_facts.specs.declared.value.Value.{Value}
use Rattle.reply_facts.specs.declared.value.Value.TheVariants.{Kind, Guid, Peer, Up, Lid, Count}

-- whether `port` is from 1 to 254, as the port of a cable and the port count of a node are
abbrev pub is_cabled_port : ℕ → Bool
is_cabled_port port = nat_le 1 port && nat_le port 254

-- whether `port` is at most 254, as any port is; 0 is the management port of a switch
abbrev pub is_any_port : ℕ → Bool
is_any_port port = nat_le port 254

-- whether `guid` is less than 2^64
abbrev pub is_guid : ℕ → Bool
is_guid guid = nat_lt guid (2 ^ 64)

-- whether a key is in range. Its GUID must be less than 2^64. Its port must be from 1 to 254 for a link, and from 0 to
-- 254 for other keys that have a port
abbrev pub is_key : Key → Bool
is_key (Node g) = is_guid g
is_key (PortGuid g p) = is_guid g && is_any_port p
is_key (Link g p) = is_guid g && is_cabled_port p
is_key (Port g p) = is_guid g && is_any_port p
is_key (Claim g p) = is_guid g && is_any_port p
is_key (Cap g) = is_guid g

-- whether a value is of the key's kind and in range. Port counts and far ports must be from 1 to 254, a GUID less than
-- 2^64, and a LID and a table size less than 2^16
abbrev pub is_value_of : Key → Value → Bool
is_value_of (Node g) (Kind kind ports) = is_cabled_port ports
is_value_of (PortGuid g p) (Guid guid) = is_guid guid
is_value_of (Link g p) (Peer guid port) = is_guid guid && is_cabled_port port
is_value_of (Port g p) (Up up) = true
is_value_of (Claim g p) (Lid lid) = nat_lt lid (2 ^ 16)
is_value_of (Cap g) (Count count) = nat_lt count (2 ^ 16)
is_value_of _ _ = false

-- whether a cell fits `key`: it is disputed, or its value is of the key's kind and in range
abbrev pub is_cell_of : Key → Cell Value → Bool
is_cell_of key (Known generation value) = is_value_of key value
is_cell_of key (Disputed generation) = true

-- whether `generation` is at least 1 and less than 2^32
abbrev pub is_generation : ℕ → Bool
is_generation generation = nat_le 1 generation && nat_lt generation (2 ^ 32)

-- whether the key and the generation of `s` are in range, and its cell fits its key
abbrev pub is_sighting : Key × Cell Value → Bool
is_sighting s = is_key s.0 && is_generation (generation_of s.1) && is_cell_of s.0 s.1

-- `s` is a sighting: its key and its generation are in range, and its cell fits its key
abbrev pub IsSighting : Key × Cell Value → Type 0
IsSighting s = IsTrue (is_sighting s)
