use Rattle.std.proofs.Common.{◌≡◌, ◌==◌, map}
use Rattle.std.specs.Prelude.{filter, slice_index}
use Rattle.spread_labels.specs.Level.{greatest, rises_at}
use Rattle.spread_labels.specs.Orders.{numbers_from}
use Rattle.spread_labels.proofs.level.width.Given as goal

-- the most rises of a vertex so far
abbrev pub invariant-loop-vertex : goal.invariant-loop-vertex
invariant-loop-vertex l =
    l.width ≡ greatest 1 (map (rises_at l.edges l.levels) (filter (λ s. slice_index l.levels s == l.level) (numbers_from 0 l.vertex)))
