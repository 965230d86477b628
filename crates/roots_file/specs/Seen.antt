-- The set by which repeated roots are found.
use Rattle.std.specs.Prelude.{◌≡◌, ℕ, List}
use Rattle.std.specs.BTreeSet.{BTreeSet, contains}
use Rattle.std.specs.Ordering.{nat_cmp}
use Rattle.roots_file.specs.Reading.{is_among}

-- the set `seen` has exactly the roots `roots`
abbrev pub HasSeen : List ℕ → BTreeSet ℕ → Type 0
HasSeen roots seen = (root : ℕ) → contains nat_cmp seen root ≡ is_among roots root
