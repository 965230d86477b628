-- How many facts are disputed: their newest generation says different values.
use Rattle.std.specs.Prelude.{ℕ, Bool, true, false, count_by}
use Rattle.fact_join.specs.declared.cell.Cell.{Cell}
use Rattle.fact_join.specs.declared.cell.Cell.TheVariants.{Known, Disputed}
use Rattle.reply_facts.specs.declared.key.Key.{Key}
use Rattle.reply_facts.specs.declared.value.Value.{Value}
use Rattle.subnet_view.specs.Reading.{Cells}

-- the cell is disputed: its newest generation has different values
abbrev pub is_disputed_cell : Cell Value → Bool
is_disputed_cell (Known generation value) = false
is_disputed_cell (Disputed generation) = true

-- the cell of the sighting is disputed
abbrev pub is_disputed : Key × Cell Value → Bool
is_disputed sighting = is_disputed_cell sighting.1

-- the number of disputed cells
abbrev pub disputed : Cells → ℕ
disputed cells = count_by is_disputed cells
