use Rattle.std.proofs.Common.{◌≡◌, map}
use Rattle.spread_labels.specs.GrowthKeys.{key_of}
use Rattle.spread_labels.specs.Orders.{numbers_from}
use Rattle.spread_labels.proofs.growth_keys.keys.Given as goal

-- the keys of the vertices so far
abbrev pub invariant-loop-vertex : goal.invariant-loop-vertex
invariant-loop-vertex l = l.keys.items ≡ map (key_of l.edges l.distance_classes) (numbers_from 0 l.vertex)
