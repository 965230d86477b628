use Rattle.std.proofs.Common.{◌≡◌, take}
use Rattle.spread_labels.specs.Level.{greatest}
use Rattle.spread_routes.proofs.adapters.most_adapters.Given as goal

-- the most so far
abbrev pub invariant-loop-count : goal.invariant-loop-count
invariant-loop-count l = l.most ≡ greatest 0 (take l.count-index l.adapters)
