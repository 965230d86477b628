-- Sets of LIDs of the same block, as the bits of a 64-bit word.
use Rattle.std.specs.Prelude.{ℕ, ◌*◌, ◌%◌, ◌^◌, ◌==◌, Bool, bit_and, bit_or}
use Rattle.std.specs.Int.{bit_at}
use Rattle.packet_walks.specs.declared.lid_set.LidSet.{LidSet}

-- the empty set
abbrev pub no_lids : LidSet
no_lids = record { bits = 0 }

-- the set with the LID at `index` added
abbrev pub with_lid : LidSet → ℕ → LidSet
with_lid set index = record { bits = bit_or set.bits (1 * 2 ^ index % 2 ^ 64) }

-- the LIDs that are in either set
abbrev pub either : LidSet → LidSet → LidSet
either set other = record { bits = bit_or set.bits other.bits }

-- the LIDs that are in both sets
abbrev pub both : LidSet → LidSet → LidSet
both set other = record { bits = bit_and set.bits other.bits }

-- whether the set has the LID at `index`
unfoldable pub has : LidSet → ℕ → Bool
has set index = bit_at set.bits index == 1
