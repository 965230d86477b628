-- The table sizes of usable switches, as a walk through the cells finds them.
use Rattle.std.specs.Prelude.{ℕ, Option, None, Some}
use Rattle.fact_join.specs.declared.cell.Cell.{Cell}
use Rattle.reply_facts.specs.declared.key.Key.{Key}
use Rattle.reply_facts.specs.declared.value.Value.{Value}
use Rattle.reply_facts.specs.Known.{cap_of}
use Rattle.subnet_view.specs.Reading.{Cells, usable_guid}

-- the table size of the given node; None if it is not known, or if no node is given
abbrev pub cap_if : Cells → Option ℕ → Option ℕ
cap_if cells None = None
cap_if cells (Some guid) = cap_of cells guid

-- the table size of the node whose type a cell gives, if this node is a usable switch; otherwise None
abbrev pub usable_cap : Cells → Key × Cell Value → Option ℕ
usable_cap cells cell = cap_if cells (usable_guid cells cell)
