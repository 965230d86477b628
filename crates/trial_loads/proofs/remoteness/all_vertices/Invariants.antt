use Rattle.std.proofs.Common.{◌≡◌, ◌<◌, All}
use Rattle.spread_labels.specs.Orders.{numbers_from}
use Rattle.trial_loads.proofs.remoteness.all_vertices.Given as goal

-- the vertices so far
abbrev pub invariant-loop-vertex : goal.invariant-loop-vertex
invariant-loop-vertex l = record {
  numbers : l.vertices.items ≡ numbers_from 0 l.vertex;
  below : All (λ v. v < l.vertex) l.vertices.items;
}
