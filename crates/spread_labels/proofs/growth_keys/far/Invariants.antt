use Rattle.spread_labels.specs.GrowthKeys.{AreFar}
use Rattle.spread_labels.proofs.growth_keys.far.Given as goal

-- the vertices so far are known
abbrev pub invariant-loop-vertex : goal.invariant-loop-vertex
invariant-loop-vertex l = AreFar l.edges l.keys l.vertex l.far.items
