-- The LIDs of a port: the 2^LMC numbers that start at its LID. InfiniBand Architecture Specification, Volume 1:
-- addressing, LMC; subnet management, PortInfo.
use Rattle.std.specs.Prelude.{ℕ, ◌+◌, ◌^◌, Bool, ◌&&◌, ◌||◌, ◌==◌, nat_le, nat_lt, ◌%◌, if◌then◌else◌}

-- whether `n` is one of the `count` numbers that start at `first`
abbrev pub is_among : ℕ → ℕ → ℕ → Bool
is_among first count n = nat_le first n && nat_lt n (first + count)

-- whether an end port with the LID `base` and the LMC `lmc` has the LID `lid`; if `base` is 0, it has only the LID 0
abbrev pub has_lid : ℕ → ℕ → ℕ → Bool
has_lid base lmc lid = if base == 0 then lid == 0 else is_among base (2 ^ lmc) lid

-- the first number past the unicast LIDs
abbrev pub lid_end : ℕ
lid_end = 0xC000

-- whether an end port may have the LID `base` and the LMC `lmc`. It may if the LID is 0, or if the LID is a multiple of
-- 2^LMC and all LIDs of the port are below 0xC000
abbrev pub may_have : ℕ → ℕ → Bool
may_have base lmc = base == 0 || (base % 2 ^ lmc == 0 && nat_le (base + 2 ^ lmc) lid_end)
