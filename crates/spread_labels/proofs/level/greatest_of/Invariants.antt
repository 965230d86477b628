use Rattle.std.proofs.Common.{◌≡◌, take}
use Rattle.spread_labels.specs.Level.{greatest}
use Rattle.spread_labels.proofs.level.greatest_of.Given as goal

-- the greatest so far
abbrev pub invariant-loop-level : goal.invariant-loop-level
invariant-loop-level l = l.found ≡ greatest 0 (take l.level-index l.levels)
