-- A store file: its head, and a record for each cell in the order of keys.
use Rattle.std.specs.Prelude.{ℕ, List, ◌++◌, Option, Some}
use Rattle.std.specs.List.{flat_map}
use Rattle.fact_join.specs.declared.cell.Cell.{Cell}
use Rattle.reply_facts.specs.declared.key.Key.{Key}
use Rattle.reply_facts.specs.declared.value.Value.{Value}
use Rattle.record_file.specs.declared.format.Format.TheVariants.{Cells}
use Rattle.record_file.specs.CellRecord.{record_bytes}
use Rattle.record_file.specs.Head.{head_bytes}

-- the store file of `cells`, with `head_floor` in its head if one is given
abbrev pub cells_file : Option ℕ → List (Key × Cell Value) → List ℕ
cells_file head_floor cells = head_bytes (Cells head_floor) ++ flat_map record_bytes cells

-- the store file of `cells` that `write_store` writes, with `floor` in its head
abbrev pub store_bytes : ℕ → List (Key × Cell Value) → List ℕ
store_bytes floor cells = cells_file (Some floor) cells
