use Rattle.std.proofs.Common.{◌≡◌, map, take}
use Rattle.spread_labels.specs.Orders.{at_position}
use Rattle.spread_routes.proofs.switch_keys.switches_at.Given as goal

-- the switches at the indices so far
abbrev pub invariant-loop-index : goal.invariant-loop-index
invariant-loop-index l = l.found.items ≡ map (at_position l.guids) (take l.index-index l.indices)
