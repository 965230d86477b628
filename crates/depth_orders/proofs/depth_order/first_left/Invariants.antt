use Rattle.std.proofs.Common.{◌≡◌, ◌<◌, length}
use Rattle.std.specs.Prelude.{MatchOption}
use Rattle.spread_labels.specs.KeyOrder.{before_by}
use Rattle.depth_orders.specs.DepthOrder.{first_left, flag_at, turned}
use Rattle.depth_orders.proofs.depth_order.first_left.Given as goal

-- the first of the vertices so far, which is one of them
abbrev pub invariant-loop-vertex : goal.invariant-loop-vertex
invariant-loop-vertex l =
    (l.found ≡ first_left (turned l.direction (before_by l.keys)) (flag_at l.placed) l.vertex)
    × MatchOption l.found (Unit {0}) (λ other. other < length l.keys)
