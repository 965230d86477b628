-- The cells of a store, one for each key, in the order of keys.
use Rattle.std.specs.Prelude.{◌≡◌, ℕ, ◌≤◌, List, length, insert, slice_get, All, IsTrue, Result, Ok, Err, None, Some}
use Rattle.std.specs.FinMap.{get}
use Rattle.std.specs.FinMap.Entries.{is_sorted}
use Rattle.fact_join.specs.declared.cell.Cell.{Cell}
use Rattle.reply_facts.specs.declared.key.Key.{Key}
use Rattle.reply_facts.specs.declared.value.Value.{Value}
use Rattle.reply_facts.specs.Key.{key_cmp}
use Rattle.reply_facts.specs.Sighting.{IsSighting}
use Rattle.fact_store.specs.Floor.{is_kept}
use Rattle.fact_store.specs.Seen.{seen}

-- the keys of `cells` are in strictly ascending order, and each cell with its key is a sighting
pub record AreCells (cells : List (Key × Cell Value)) : Type 0 where
  pub rising : IsTrue (is_sorted key_cmp cells)
  pub in_range : All IsSighting cells

-- `cells` can be the cells of a store with `floor`. Their keys are in strictly ascending order, each cell with its key
-- is a sighting, no cell is below `floor`, and `floor` is at least 1
pub record AreHeld (floor : ℕ) (cells : List (Key × Cell Value)) : Type 0 where
  pub from_one : 1 ≤ floor
  pub are : AreCells cells
  pub kept : All (λ s. IsTrue (is_kept floor s.1)) cells

-- `key` has no cell in `cells`, and a cell of `key` that is inserted at `index` keeps the order of keys
pub record IsIndexFor (key : Key) (cells : List (Key × Cell Value)) (index : ℕ) : Type 0 where
  pub within : index ≤ length cells
  pub absent : get (seen cells) key ≡ None
  pub rising : (c : Cell Value) → IsTrue (is_sorted key_cmp (insert cells index (key, c)))

-- the result of a search for `key` in `cells`: `Ok` with the index of the cell of `key`; if `key` has no cell, `Err`
-- with the index at which a cell of `key` would be inserted
abbrev pub IsSearched : Key → List (Key × Cell Value) → Result ℕ ℕ → Type 0
IsSearched key cells (Ok index) = (c : Cell Value) × (slice_get cells index ≡ Some (key, c))
IsSearched key cells (Err index) = IsIndexFor key cells index
