-- Whether packets that have a service level get a lane below 15, on which they are carried.
use Rattle.std.specs.Prelude.{◌≡◌, ◌<◌, ℕ, Bool, List, Option, Some, ◌&&◌, ◌||◌, not, is_some, nat_lt, slice_index_or}
use Rattle.std.specs.List.{list_all, range_with_len}
use Rattle.lanes_file.specs.declared.lanes.LaneMap.{LaneMap}
use Rattle.lanes_file.specs.declared.lanes.LevelBlock.{LevelBlock}
use Rattle.lanes_file.specs.Lanes.{LanesSaid, lane_of, level_of, gives}

-- `lanes` gives packets of service level `level` a lane below 15; false if `level` is past the end
abbrev pub has_lane : ℕ → List ℕ → Bool
has_lane level lanes = nat_lt (slice_index_or lanes level 15) 15

-- `map` gives packets of service level `level` a lane below 15
abbrev pub map_has_lane : ℕ → LaneMap → Bool
map_has_lane level map = has_lane level map.lanes

-- each of `maps` gives packets of service level `level` a lane below 15, and so does `lanes`, for packets that have
-- no map
abbrev pub carries : List ℕ → List LaneMap → ℕ → Bool
carries lanes maps level = has_lane level lanes && list_all (map_has_lane level) maps

-- each of `maps` gives a lane below 15 to each service level that any packets have, and so does `lanes`, for packets
-- that have no map. `own` is the level of packets that get none from a block
abbrev pub each_is_carried : List ℕ → List LaneMap → Option ℕ → List LevelBlock → Bool
each_is_carried lanes maps own blocks =
    list_all (λ level. carries lanes maps level || not (gives own blocks level)) (range_with_len 0 16)

-- each map of `said` gives a lane below 15 to each service level that `said` gives to any packets, and so do the
-- lanes of `said`, for packets that have no map
abbrev pub carries_all : LanesSaid → Bool
carries_all said = each_is_carried said.lanes said.maps said.level said.levels

-- according to `said`, each packet that has a service level has a lane below 15 in each switch, between any two ports
abbrev pub CarriesAll : LanesSaid → Type 0
CarriesAll said =
    (node port lid level : ℕ) → level_of said node port lid ≡ Some level
    → (switch into out : ℕ) → lane_of said switch into out level < 15

-- `said` has a `level` line, so each packet has a service level
abbrev pub has_level_for_all : LanesSaid → Bool
has_level_for_all said = is_some said.level
