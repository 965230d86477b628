-- The page lies from `low` on and before `high`.
use Rattle.std.proofs.Common.{◌-◌, ◌<◌, ◌≤◌, length}
use Rattle.std.specs.Prelude.{slice_index}
use Rattle.page_list.proofs.slot.page_of.Given as goal

abbrev pub invariant-loop-low : goal.invariant-loop-low
invariant-loop-low l = (l.low < l.high) × (l.high ≤ length l.starts.items) × (slice_index l.starts.items l.low ≤ l.at)
    × (l.high < length l.starts.items → l.at < slice_index l.starts.items l.high)

abbrev pub decreases-loop-low : goal.decreases-loop-low
decreases-loop-low l = l.high - l.low
