-- The keys by which maps and blocks of levels must be in ascending order in a text of lanes. A key is a node's GUID and
-- two numbers.
use Rattle.std.specs.Prelude.{ℕ, Bool, true, Option, None, Some}
use Rattle.std.specs.declared.cmp.Ordering.{Ordering}
use Rattle.std.specs.Ordering.{is_lt, nat_cmp, ordering_then}
use Rattle.smp_bytes.specs.Ports.{node_port_cmp}
use Rattle.lanes_file.specs.declared.lanes.LaneMap.{LaneMap}
use Rattle.lanes_file.specs.declared.lanes.LevelBlock.{LevelBlock}

-- a node's GUID, and two numbers
abbrev pub Key : Type 0
Key = (ℕ × ℕ) × ℕ

-- the order of keys: by the GUID, then by the first number, then by the second
abbrev pub key_cmp : Key → Key → Ordering
key_cmp a b = ordering_then (node_port_cmp a.0 b.0) (nat_cmp a.1 b.1)

-- `key` is greater than `last`, the key before it; true if there is no key before it, so that `last` is None
abbrev pub is_after : Option Key → Key → Bool
is_after None key = true
is_after (Some last) key = is_lt (key_cmp last key)

-- the key of a map: its node, the port by which packets come in, and the port by which they leave
abbrev pub map_key : LaneMap → Key
map_key map = ((map.node, map.into), map.out)

-- the key of a block of levels: its node, its port and its number
abbrev pub block_key : LevelBlock → Key
block_key block = ((block.node, block.port), block.number)
