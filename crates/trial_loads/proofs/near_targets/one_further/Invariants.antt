use Rattle.trial_loads.specs.NearTargets.{AreFurther}
use Rattle.trial_loads.proofs.near_targets.one_further.Given as goal

-- those of the vertices so far
abbrev pub invariant-loop-vertex : goal.invariant-loop-vertex
invariant-loop-vertex l = AreFurther l.edges l.near l.vertex l.next.items
