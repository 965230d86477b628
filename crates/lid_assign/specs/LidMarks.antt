-- Marks on numbers: which are claimed, and which are taken.
use Rattle.std.specs.Prelude.{◌≡◌, ◌<◌, ◌≤◌, ◌+◌, ◌%◌, ◌^◌, ℕ, Bool, true, false, List, length, Option, None, Some, ◌||◌, option_map, option_and_then, slice_index_or, if◌then◌else◌}
use Rattle.std.specs.Option.{option_map_or}
use Rattle.std.specs.List.{list_any}
use Rattle.subnet_view.specs.declared.end_port.EndPort.{EndPort}
use Rattle.lid_assign.specs.declared.hand_out.Next.{Next}
use Rattle.lid_assign.specs.Ranges.{Range, is_in, fits}
use Rattle.lid_assign.specs.Lids.{count_up}

-- whether the number `n` is marked; false past the end of `marks`
abbrev pub is_marked : List Bool → ℕ → Bool
is_marked marks n = slice_index_or marks n false

-- whether any number of the range `r` is marked
abbrev pub any_marked : List Bool → Range → Bool
any_marked marks r = list_any (is_marked marks) (count_up r.first r.width)

-- the range of `width` numbers that begins at `c`
abbrev pub from_on : ℕ → ℕ → Range
from_on width c = record { first = c; width = width }

-- whether the number `n` is in the range `r`; false if `r` is None
abbrev pub is_in_some : Option Range → ℕ → Bool
is_in_some r n = option_map_or (λ r. is_in r n) r false

-- `new` is as long as `old`. It marks what `old` marks and, if `r` is a range, each number of `r` below that length
pub record AreMarkedMore (r : Option Range) (old new : List Bool) : Type 0 where
  pub all : length new ≡ length old
  pub each : (n : ℕ) → n < length old → is_marked new n ≡ (is_in_some r n || is_marked old n)

-- `c` if the range of `width` numbers that begins at `c` fits, otherwise None
abbrev pub if_within : ℕ → ℕ → ℕ → Option ℕ
if_within room width c = if fits room (from_on width c) then Some c else None

-- `claim` if its range of `width` fits; None if it does not, or if `claim` is None
abbrev pub fitting : ℕ → ℕ → Option ℕ → Option ℕ
fitting room width claim = option_and_then (if_within room width) claim

-- `c` if none of the `width` numbers that begin at `c` is marked, otherwise None
abbrev pub if_unmarked : List Bool → ℕ → ℕ → Option ℕ
if_unmarked marks width c = if any_marked marks (from_on width c) then None else Some c

-- `claim` if its range of `width` fits and has no marked number; None otherwise, or if `claim` is None
abbrev pub unmarked : List Bool → ℕ → Option ℕ → Option ℕ
unmarked marks width claim = option_and_then (if_unmarked marks width) (fitting (length marks) width claim)

-- the range of `width` numbers that begins at `c` fits, and none of its numbers is marked
pub record IsUnmarked (marks : List Bool) (width c : ℕ) : Type 0 where
  pub is_fit : fits (length marks) (from_on width c) ≡ true
  pub is_open : any_marked marks (from_on width c) ≡ false

-- no range of `width` numbers that begins at a number `c` with `low` ≤ `c` < `high` fits and has no mark
abbrev pub NoneUnmarked : List Bool → ℕ → ℕ → ℕ → Type 0
NoneUnmarked marks width low high = (c : ℕ) → low ≤ c → c < high → IsUnmarked marks width c → ⊥

-- `c` is the least number that is at least `low` and at which a range of `width` numbers begins that fits and has no
-- mark
pub record IsLeastUnmarked (marks : List Bool) (width low c : ℕ) : Type 0 where
  pub unmarked_there : IsUnmarked marks width c
  pub from_low : low ≤ c
  pub none_before : NoneUnmarked marks width low c

-- the marked numbers are exactly those of `ranges` that are below `room`
pub record AreTaken (room : ℕ) (ranges : List Range) (marks : List Bool) : Type 0 where
  pub all : length marks ≡ room
  pub each : (n : ℕ) → n < room → is_marked marks n ≡ list_any (λ r. is_in r n) ranges

-- no range of `width` that begins below `next` fits and has no mark. `next` is a multiple of `width` other than 0, and
-- is at most `width` past the end of `marks`
pub record IsPassed (marks : List Bool) (width next : ℕ) : Type 0 where
  pub aligned : next % width ≡ 0
  pub not_0 : 1 ≤ next
  pub near : next ≤ length marks + width
  pub none_before : NoneUnmarked marks width 0 next

-- `next` is passed: `next.switch` (`IsPassed`) for ranges of width 1, as switches have, and `next.adapter` for ranges
-- of width 2^LMC, as adapter ports have
pub record ArePassed (lmc : ℕ) (marks : List Bool) (next : Next) : Type 0 where
  pub switches : IsPassed marks 1 next.switch
  pub adapters : IsPassed marks (2 ^ lmc) next.adapter

-- `found` has the LIDs that `handed` has; `found` is None exactly when `handed` is None
abbrev pub IsFound : {V : Type 0} → (V → List (EndPort × ℕ)) → Option (List (EndPort × ℕ)) → Option V → Type 0
IsFound items handed found = option_map items found ≡ handed
