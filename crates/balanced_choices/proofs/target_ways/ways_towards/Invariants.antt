use Rattle.std.proofs.Common.{◌≡◌, map}
use Rattle.port_graph.specs.Heads.{edges_at}
use Rattle.spread_labels.specs.MarkSets.{picked, sets_at}
use Rattle.spread_labels.specs.Orders.{numbers_from}
use Rattle.balanced_choices.proofs.target_ways.ways_towards.Given as goal

-- those of the positions so far
abbrev pub invariant-loop-position : goal.invariant-loop-position
invariant-loop-position l = l.ways ≡ map (λ p. picked l.k (sets_at l.sets p) (edges_at l.graph p)) (numbers_from 0 l.position)
