-- The held blocks with the same number, as rows: one for each switch.
use Rattle.std.specs.Prelude.{◌≡◌, ◌<◌, ℕ, List, [], Option, length, slice_index_or, slice_set}
use Rattle.std.specs.Option.{option_map_or}
use Rattle.held_tables.specs.declared.held.HeldBlock.{HeldBlock}
use Rattle.held_tables.specs.Held.{HeldPlan}
use Rattle.held_tables.specs.Tables.{block_at, entry_in}

-- `rows` has `count` rows, and all their entries are 255
pub record AreBlank (count : ℕ) (rows : List (List ℕ)) : Type 0 where
  pub as_many : length rows ≡ count
  pub entry : (index i : ℕ) → slice_index_or (slice_index_or rows index []) i 255 ≡ 255

-- `rows` has a row for each held switch, in the order of the held switches. The row has the entries of the switch's
-- block with the number `number`, and 255 for an entry that is not held
pub record AreBlocks (held : HeldPlan) (number : ℕ) (rows : List (List ℕ)) : Type 0 where
  pub as_many : length rows ≡ length held.switches
  pub entry : (index i : ℕ) → index < length rows → slice_index_or (slice_index_or rows index []) i 255
      ≡ entry_in (block_at held index number) i

-- `rows` with the entries of `block` as the row of its switch
abbrev pub with_row : List (List ℕ) → HeldBlock → List (List ℕ)
with_row rows block = slice_set rows block.switch block.entries

-- `rows` with the entries of `block`, if there is one, as the row of its switch
abbrev pub with_block : List (List ℕ) → Option HeldBlock → List (List ℕ)
with_block rows block = option_map_or (with_row rows) block rows
