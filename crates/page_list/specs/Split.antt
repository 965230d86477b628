-- An index that splits a part of a list in two.
use Rattle.std.specs.Prelude.{ℕ, ◌+◌, ◌<◌, ◌≤◌}

-- `index` is at least `low` and below `high`. In the part of a list from `low` up to, but not including, `high`, at
-- most `most` items come before `index`, and at most `most` after it
pub record IsSplit (low high most index : ℕ) : Type 0 where
  pub from : low ≤ index
  pub until : index < high
  pub before : index ≤ low + most
  pub after : high ≤ index + most + 1
