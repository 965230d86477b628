use Rattle.std.proofs.Common.{◌≡◌, ℕ, length}
use Rattle.spread_labels.specs.KeyOrder.{before_by}
use Rattle.depth_orders.specs.DepthOrder.{depth_after, flag_at, is_among, turned}
use Rattle.depth_orders.proofs.depth_order.order_by_depth.Given as goal

-- the order so far, and flags that tell which vertices stand in it
abbrev pub invariant-loop : goal.invariant-loop
invariant-loop l =
    record {
      order : l.vertices.items ≡ depth_after l.edges (turned l.fn.direction (before_by l.keys)) l.root l.counter;
      long : length l.placed.items ≡ length l.edges;
      flags : (s : ℕ) → flag_at l.placed.items s ≡ is_among l.vertices.items s;
    }
