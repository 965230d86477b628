use Rattle.std.proofs.Common.{◌≡◌, ◌<◌, take, length, All}
use Rattle.spread_routes.specs.Spread.{indices_of}
use Rattle.spread_routes.proofs.index.indices.Given as goal

-- the indices so far
abbrev pub invariant-loop-guid : goal.invariant-loop-guid
invariant-loop-guid l = (l.found.items ≡ indices_of l.graph (take l.guid-index l.guids)) × All (λ i. i < length l.graph) l.found.items
