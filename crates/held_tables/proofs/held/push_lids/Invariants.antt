use Rattle.std.proofs.Common.{◌≡◌, ◌++◌, map}
use Rattle.std.specs.List.{range_with_len}
use Rattle.held_tables.specs.Held.{lid_at}
use Rattle.held_tables.proofs.held.push_lids.Given as goal

-- the LIDs so far
abbrev pub invariant-loop-step : goal.invariant-loop-step
invariant-loop-step l = l.lids.items ≡ l.fn.lids.items ++ map (lid_at l.first) (range_with_len 0 l.step)
