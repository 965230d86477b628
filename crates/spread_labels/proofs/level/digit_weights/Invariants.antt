use Rattle.std.proofs.Common.{◌≡◌, map, take}
use Rattle.spread_labels.specs.Level.{digit_weight_of}
use Rattle.spread_labels.proofs.level.digit_weights.Given as goal

-- the digit weights of the vertices so far
abbrev pub invariant-loop-level : goal.invariant-loop-level
invariant-loop-level l = l.digit_weights.items ≡ map (λ h. digit_weight_of l.edges l.levels h) (take l.level-index l.levels)
