-- What a caller sees of a list in pages.
use Rattle.std.specs.Prelude.{ℕ, List}

-- a list in pages, as a caller sees it: its items, from the first to the last, and the number of further items for
-- which there is memory
pub record Listing (T : Type 0) : Type 0 where
  pub items : List T
  pub room : ℕ
