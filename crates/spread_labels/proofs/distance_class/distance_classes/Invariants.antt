use Rattle.std.proofs.Common.{◌≡◌, map}
use Rattle.spread_labels.specs.DistanceClass.{distance_class_at}
use Rattle.spread_labels.specs.Orders.{numbers_from}
use Rattle.spread_labels.proofs.distance_class.distance_classes.Given as goal

-- the distance classes of the vertices so far
abbrev pub invariant-loop-vertex : goal.invariant-loop-vertex
invariant-loop-vertex l = l.distance_classes.items ≡ map (distance_class_at l.roots l.leaves) (numbers_from 0 l.vertex)
