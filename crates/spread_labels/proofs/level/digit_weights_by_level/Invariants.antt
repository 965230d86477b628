use Rattle.std.proofs.Common.{◌≡◌, suc, map}
use Rattle.spread_labels.specs.Level.{digit_weight_of}
use Rattle.spread_labels.specs.Orders.{numbers_from}
use Rattle.spread_labels.proofs.level.digit_weights_by_level.Given as goal

-- the digit weights so far, the last of which is at hand
abbrev pub invariant-loop-level : goal.invariant-loop-level
invariant-loop-level l =
    (l.digit_weight ≡ digit_weight_of l.edges l.levels l.level)
    × (l.digit_weights.items ≡ map (digit_weight_of l.edges l.levels) (numbers_from 0 (suc l.level)))
