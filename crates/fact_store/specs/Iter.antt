-- The cells that an iterator over a store has left.
use Rattle.std.specs.Prelude.{List}
use Rattle.page_list.specs.Iter.{rest_of}
use Rattle.fact_join.specs.declared.cell.Cell.{Cell}
use Rattle.reply_facts.specs.declared.key.Key.{Key}
use Rattle.reply_facts.specs.declared.value.Value.{Value}
use Rattle.fact_store.specs.declared.iter.Cells.{Cells}

-- the cells that the iterator `it` has not passed, with their keys
abbrev pub cells_left : Cells → List (Key × Cell Value)
cells_left it = rest_of it.cells
