use Rattle.std.proofs.Common.{◌≡◌, map}
use Rattle.spread_labels.specs.Orders.{numbers_from}
use Rattle.spread_routes.specs.LeafNumbers.{leaf_number}
use Rattle.spread_routes.proofs.leaf_order.leaf_numbers.Given as goal

-- the numbers so far
abbrev pub invariant-loop-index : goal.invariant-loop-index
invariant-loop-index l = l.numbers.items ≡ map (leaf_number l.neighbors.items l.leaves.items) (numbers_from 0 l.index)
