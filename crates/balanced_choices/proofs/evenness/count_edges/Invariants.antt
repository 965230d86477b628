use Rattle.std.proofs.Common.{◌≡◌, drop, length, map}
use Rattle.balanced_choices.specs.BalancedChoices.{sum_from}
use Rattle.balanced_choices.proofs.evenness.count_edges.Given as goal

-- the vertices that are left do the rest
abbrev pub invariant-loop-vertex : goal.invariant-loop-vertex
invariant-loop-vertex l = sum_from l.count (map length (drop l.vertex l.graph)) ≡ sum_from 0 (map length l.graph)
