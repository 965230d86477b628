use Rattle.std.proofs.Common.{◌≡◌, map}
use Rattle.spread_labels.specs.Orders.{numbers_from}
use Rattle.trial_loads.specs.LeastLoaded.{key_in}
use Rattle.trial_loads.proofs.least_loaded.keys_in.Given as goal

-- the keys of the vertices so far
abbrev pub invariant-loop-vertex : goal.invariant-loop-vertex
invariant-loop-vertex l = l.keys.items ≡ map (key_in l.vertices) (numbers_from 0 l.vertex)
