-- What a text of lanes can say. Lanes and the level of a `level` line are up to 15. The maps and the blocks are in
-- ascending order of their keys.
use Rattle.std.specs.Prelude.{ℕ, ◌<◌, List, map, IfSome}
use Rattle.std.specs.List.{AllByRecursion}
use Rattle.std.specs.List.Sorted.{IsStrictlySortedBy}
use Rattle.lanes_file.specs.declared.lanes.LaneMap.{LaneMap}
use Rattle.lanes_file.specs.Keys.{key_cmp, map_key, block_key}
use Rattle.lanes_file.specs.Lanes.{LanesSaid}

-- each of `lanes` is up to 15
abbrev pub AreLanes : List ℕ → Type 0
AreLanes lanes = AllByRecursion (λ lane. lane < 16) lanes

-- each lane of `map` is up to 15
abbrev pub HasLanes : LaneMap → Type 0
HasLanes map = AreLanes map.lanes

-- the lanes of `said` and of its maps are up to 15, and so is its level, if it has one. Its maps and its blocks are in
-- ascending order of their keys
pub record IsWellFormed (said : LanesSaid) : Type 0 where
  pub lanes : AreLanes said.lanes
  pub map_lanes : AllByRecursion HasLanes said.maps
  pub maps : IsStrictlySortedBy key_cmp (map map_key said.maps)
  pub level : IfSome said.level (λ s. s < 16)
  pub levels : IsStrictlySortedBy key_cmp (map block_key said.levels)
