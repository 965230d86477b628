use Rattle.std.proofs.Common.{◌≡◌, ◌++◌, drop}
use Rattle.spread_labels.specs.MarkSets.{picked}
use Rattle.balanced_choices.proofs.target_ways.find_having.Given as goal

-- those that were found, and those among the edges that are left
abbrev pub invariant-loop-j : goal.invariant-loop-j
invariant-loop-j l = l.found.items ++ picked l.target (drop l.j l.sets) (drop l.j l.edges) ≡ picked l.target l.sets l.edges
