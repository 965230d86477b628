use Rattle.std.proofs.Common.{◌≡◌, map, take}
use Rattle.spread_routes.specs.Spread.{lid_digit_at}
use Rattle.spread_routes.proofs.lid_digit.lid_digits.Given as goal

-- the LID digits at the positions so far
abbrev pub invariant-loop-index : goal.invariant-loop-index
invariant-loop-index l = l.lid_digits.items ≡ map (lid_digit_at l.graph l.levels) (take l.index-index l.order)
