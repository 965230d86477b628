-- How many lines of each kind an audit writes.
use Rattle.std.specs.Prelude.{ℕ, Bool, if◌then◌else◌}

-- the maximum number of listed items of each kind: 20, or 2^64 - 1 if `all`; no list has that many
abbrev pub most_lines : Bool → ℕ
most_lines all = if all then 18446744073709551615 else 20
