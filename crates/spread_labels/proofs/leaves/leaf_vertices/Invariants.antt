use Rattle.std.proofs.Common.{◌≡◌, get_or}
use Rattle.std.specs.Prelude.{filter, nat_lt}
use Rattle.spread_labels.specs.Orders.{numbers_from}
use Rattle.spread_labels.proofs.leaves.leaf_vertices.Given as goal

-- those of the vertices so far
abbrev pub invariant-loop-vertex : goal.invariant-loop-vertex
invariant-loop-vertex l = l.found.items ≡ filter (λ v. nat_lt 0 (get_or l.adapters v 0)) (numbers_from 0 l.vertex)
