-- What a text of lanes says after one more line.
use Rattle.std.specs.Prelude.{List, [], ◌∷◌, ◌++◌, Some}
use Rattle.lanes_file.specs.declared.lanes_item.LanesItem.{LanesItem}
use Rattle.lanes_file.specs.declared.lanes_item.LanesItem.TheVariants.{Nothing, Lanes, Map, Level, Block}
use Rattle.lanes_file.specs.Lanes.{LanesSaid}

-- what is said after a line that says the given item, if `said` is said before the line
abbrev pub said_with : LanesSaid → LanesItem → LanesSaid
said_with said Nothing = said
said_with said (Lanes lanes) = record said { lanes = lanes }
said_with said (Map map) = record said { maps = said.maps ++ map ∷ [] }
said_with said (Level level) = record said { level = Some level }
said_with said (Block block) = record said { levels = said.levels ++ block ∷ [] }

-- what is said after lines that say `items`, if `said` is said before them
abbrev pub said_by : LanesSaid → List LanesItem → LanesSaid
said_by said [] = said
said_by said (item ∷ items) = said_by (said_with said item) items
