use Rattle.std.proofs.Common.{◌≡◌, map}
use Rattle.spread_labels.specs.Orders.{numbers_from}
use Rattle.balanced_choices.specs.Ways.{edge_taken}
use Rattle.balanced_choices.proofs.edges_taken.edges_taken.Given as goal

-- those of the positions so far
abbrev pub invariant-loop-position : goal.invariant-loop-position
invariant-loop-position l = l.taken.items ≡ map (edge_taken l.ways l.choices) (numbers_from 0 l.position)
