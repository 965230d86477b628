-- The order of the last step, which decides if the held tables imply several orders.
use Rattle.std.specs.Prelude.{ℕ, List, Option, None, Some, map}
use Rattle.subnet_view.specs.Reading.{Cells, switches}
use Rattle.spread_labels.specs.Orders.{position_of}

-- the position of each usable switch, in ascending order of GUID, in a list of switches: the number of switches before
-- it in the list, or the length of the list for a switch that the list does not have
abbrev pub named_positions : Cells → List ℕ → List ℕ
named_positions cells named = map (position_of named) (switches cells)

-- the positions in the order of the last step, given as a list of switches; for None, `positions`
abbrev pub near_positions : List ℕ → Cells → Option (List ℕ) → List ℕ
near_positions positions cells None = positions
near_positions positions cells (Some last) = named_positions cells last
