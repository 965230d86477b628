-- What a text of lanes says, and the lane and the service level of packets.
use Rattle.std.specs.Prelude.{ℕ, ◌/◌, ◌%◌, ◌==◌, ◌&&◌, Bool, List, [], Option, None, Some, find, nat_lt, slice_index}
use Rattle.std.specs.Prelude.{slice_index_or, if◌then◌else◌, false, ◌||◌}
use Rattle.lanes_file.specs.declared.lanes.LaneMap.{LaneMap}
use Rattle.lanes_file.specs.declared.lanes.LevelBlock.{LevelBlock}
use Rattle.std.specs.List.{list_any, range_with_len}

-- what a text of lanes says: lanes, maps, a level, and blocks of levels
pub record LanesSaid : Type 0 where
  -- for each service level, the lane of packets that have no map; [] if there is no `lanes` line
  pub lanes : List ℕ
  -- the maps, in ascending order of node, then of incoming port, then of outgoing port
  pub maps : List LaneMap
  -- the service level of packets that get none from a block; None if there is no `level` line
  pub level : Option ℕ
  -- the blocks of levels, in ascending order of node, then of port, then of number
  pub levels : List LevelBlock

-- the lanes of a `lanes` line; [] if there is no such line
abbrev pub lanes_or_none : Option (List ℕ) → List ℕ
lanes_or_none None = []
lanes_or_none (Some lanes) = lanes

-- what is said, from the lanes and the level, each None if there is none, and the lists of maps and blocks
abbrev pub said_in : Option (List ℕ) → List LaneMap → Option ℕ → List LevelBlock → LanesSaid
said_in lanes maps level levels = record { lanes = lanes_or_none lanes; maps = maps; level = level; levels = levels }

-- what a text without lines says
abbrev pub nothing_said : LanesSaid
nothing_said = said_in None [] None []

-- the map is for packets that come into `node` by port `into` and leave by port `out`
abbrev pub is_map : ℕ → ℕ → ℕ → LaneMap → Bool
is_map node into out map = map.node == node && map.into == into && map.out == out

-- the lanes that a map gives; `lanes` if there is no map
abbrev pub lanes_by : List ℕ → Option LaneMap → List ℕ
lanes_by lanes None = lanes
lanes_by lanes (Some map) = map.lanes

-- for each service level, the lane of packets from port `into` to port `out` of `node`; [] if the text gives no lanes
abbrev pub lanes_between : LanesSaid → ℕ → ℕ → ℕ → List ℕ
lanes_between said node into out = lanes_by said.lanes (find (is_map node into out) said.maps)

-- the lane of packets of service level `level` from port `into` to port `out` of `node`; 15 if the text gives none
abbrev pub lane_of : LanesSaid → ℕ → ℕ → ℕ → ℕ → ℕ
lane_of said node into out level = slice_index_or (lanes_between said node into out) level 15

-- `block` has the levels of packets from `port` of `node` to the 64 LIDs that start at 64 times `number`
abbrev pub is_block : ℕ → ℕ → ℕ → LevelBlock → Bool
is_block node port number block = block.node == node && block.port == port && block.number == number

-- the byte at `index` of the block, as a service level; `level` if the byte is over 15, or if there is no block
abbrev pub level_by : Option ℕ → ℕ → Option LevelBlock → Option ℕ
level_by level index None = level
level_by level index (Some block) =
    if nat_lt (slice_index block.levels index) 16 then Some (slice_index block.levels index) else level

-- the service level of packets from `port` of `node` to `lid`; None if the text gives none
abbrev pub level_of : LanesSaid → ℕ → ℕ → ℕ → Option ℕ
level_of said node port lid = level_by said.level (lid % 64) (find (is_block node port (lid / 64)) said.levels)

-- a LID of `block` has the service level `level`
abbrev pub block_gives : ℕ → LevelBlock → Bool
block_gives level block = list_any (λ index. slice_index block.levels index == level) (range_with_len 0 64)

-- packets that get no level from a block have the service level `level`; false if they have no service level
abbrev pub is_level : Option ℕ → ℕ → Bool
is_level None level = false
is_level (Some own) level = own == level

-- any packets have the service level `level`: one of `blocks` gives it to a LID, or it is `own`, the level of packets
-- that get none from a block
abbrev pub gives : Option ℕ → List LevelBlock → ℕ → Bool
gives own blocks level = is_level own level || list_any (block_gives level) blocks
