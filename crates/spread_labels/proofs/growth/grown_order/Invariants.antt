use Rattle.std.proofs.Common.{◌-◌, length}
use Rattle.spread_labels.specs.KeyOrder.{before_by}
use Rattle.spread_labels.proofs.OrderSteps.{IsGrowing}
use Rattle.spread_labels.proofs.growth.grown_order.Given as goal

-- the order so far
abbrev pub invariant-loop : goal.invariant-loop
invariant-loop l = IsGrowing l.edges (before_by l.keys) (length l.edges - l.counter) l.vertices.items l.stages.items
